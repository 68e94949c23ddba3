-- Headers that differ in no field are one.
use Rattle.std.proofs.Common.{◌≡◌, ◌≢◌, ℕ, Bool, true, false, true≢false, not, cond, List, [], ◌∷◌, Some, None, refl, sym, ap, ◌∙◌}
use Rattle.std.proofs.lemmas.Bool.{eq-eqb, eqb-true}
use Rattle.std.specs.Prelude.{◌==◌, find}
use Rattle.std.specs.List.{AllByRecursion}
use Rattle.log_header.specs.Header.{HeaderView}
use Rattle.log_flaws.specs.Fields.{differs, number_in}
use Rattle.log_flaws.specs.declared.field.HeaderField.{HeaderField}
use Rattle.log_flaws.specs.declared.field.TheConstants.{FIELDS}

-- where nothing is found, nothing passes the test
none_pass : {X : Type 0} (p : X → Bool) (xs : List X) → find p xs ≡ None → AllByRecursion (λ x. p x ≡ false) xs
none_pass p [] none = tt
none_pass {X} p (x ∷ xs) none = go (p x) refl none (λ rest. none_pass p xs rest)
  where
    go : (b : Bool) → p x ≡ b → cond b (Some x) (find p xs) ≡ None → (find p xs ≡ None → AllByRecursion (λ y. p y ≡ false) xs)
        → (p x ≡ false) × AllByRecursion (λ y. p y ≡ false) xs
    go true is none rest = absurd cc
    go false is none rest = (is, rest none)

-- what is found passes the test
pub passes : {X : Type 0} (p : X → Bool) (xs : List X) (x : X) → find p xs ≡ Some x → p x ≡ true
passes p [] x found = absurd cc
passes {X} p (y ∷ ys) x found = go (p y) refl found (λ rest. passes p ys x rest)
  where
    go : (b : Bool) → p y ≡ b → cond b (Some y) (find p ys) ≡ Some x → (find p ys ≡ Some x → p x ≡ true) → p x ≡ true
    go true is found rest = let same : y ≡ x = cc in ap p (sym same) ∙ is
    go false is found rest = rest found

not_false : (b : Bool) → not b ≡ false → b ≡ true
not_false true e = refl
not_false false e = absurd (true≢false e)

same_number : (m n : ℕ) → not (m == n) ≡ false → m ≡ n
same_number m n e = eqb-true m n (not_false (m == n) e)

pub same_header : (g h : HeaderView) → find (differs g h) FIELDS ≡ None → g ≡ h
same_header g h none =
    let all = none_pass (differs g h) FIELDS none in
    let version = same_number g.version h.version all.0 in
    let logger = same_number g.logger h.logger all.1.0 in
    let loggers = same_number g.loggers h.loggers all.1.1.0 in
    let warehouses = same_number g.scale.warehouses h.scale.warehouses all.1.1.1.0 in
    let districts = same_number g.scale.districts h.scale.districts all.1.1.1.1.0 in
    let customers = same_number g.scale.customers h.scale.customers all.1.1.1.1.1.0 in
    let items = same_number g.scale.items h.scale.items all.1.1.1.1.1.1.0 in
    let orders = same_number g.scale.orders h.scale.orders all.1.1.1.1.1.1.1.0 in
    let commits = same_number g.scale.commits h.scale.commits all.1.1.1.1.1.1.1.1.0 in
    let seed = same_number g.seed h.seed all.1.1.1.1.1.1.1.1.1.0 in
    λ i. record {
      version = version i;
      logger = logger i;
      loggers = loggers i;
      scale = record {
        warehouses = warehouses i;
        districts = districts i;
        customers = customers i;
        items = items i;
        orders = orders i;
        commits = commits i;
      };
      seed = seed i;
    }

not_true : (b : Bool) → not b ≡ true → b ≡ false
not_true true e = absurd (true≢false (sym e))
not_true false e = refl

-- headers that differ in a field have other numbers there
pub different : (g h : HeaderView) (field : HeaderField) → differs g h field ≡ true → number_in field g ≢ number_in field h
different g h field e = λ same. absurd (true≢false (sym (eq-eqb (number_in field g) (number_in field h) same) ∙ not_true (number_in field g == number_in field h) e))

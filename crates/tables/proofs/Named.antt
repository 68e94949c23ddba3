-- Whom a last name means: where a customer has it somebody is meant, and who is meant is a customer.
use Rattle.std.proofs.Common.{◌≡◌, ℕ, zero, suc, ◌+◌, ◌-◌, ◌/◌, ◌≤◌, Bool, true, false, ◌&&◌, ◌==◌, ◌||◌, cond, Option, Some, None, is_some, IsSome, List, []}
use Rattle.std.proofs.Common.{◌∷◌, map, length, true≢false, refl, sym, ap, ◌∙◌, arith}
use Rattle.std.proofs.lemmas.Bool.Decides.{nat_tests}
use Rattle.std.proofs.lemmas.Option.{slice_get-get_or, same_Some}
use Rattle.std.specs.List.{filter, list_any, slice_get}
use Rattle.std.specs.Option.{option_map}
use Rattle.std.specs.Ordering.{eq_by_cmp, is_eq}
use Rattle.std.specs.Cmp.{tied_itself}
use Rattle.std.specs.FinMap.{FinMap, get, entries, from_entries, find, get-entries, get-from_entries, contains_key-keys}
use Rattle.tables.specs.Keys.{customer_cmp, is_district}
use Rattle.tables.specs.Names.{name_cmp, name_of, names, named, middle, customer_named}
use Rattle.tables.specs.declared.keys.DistrictKey.{DistrictKey}
use Rattle.tables.specs.declared.keys.CustomerKey.{CustomerKey}
use Rattle.tables.specs.declared.names.NameKey.{NameKey}
use Rattle.tables.specs.declared.rows.Customer.{Customer}
use Rattle.tables.proofs.Orders.{exact_name, exact_customer}
use Rattle.tables.proofs.Entries.{tied}

abbrev marked : List (CustomerKey × Customer) → List (NameKey × Unit {0})
marked es = map (λ (e : CustomerKey × Customer). (name_of e.0 e.1, tt)) es

-- a name among the names is one of the entries', and the other way round
is_among : (m : FinMap customer_cmp Customer) (q : NameKey) → list_any (eq_by_cmp name_cmp q) (names m) ≡ is_some (find name_cmp q (marked (entries m)))
is_among m q = sym (contains_key-keys (from_entries {R = name_cmp} (marked (entries m))) q)
    ∙ ap is_some (get-from_entries exact_name.total (marked (entries m)) q)

found_name : (es : List (CustomerKey × Customer)) (k : CustomerKey) (r : Customer) → find customer_cmp k es ≡ Some r
    → is_some (find name_cmp (name_of k r) (marked es)) ≡ true
found_name [] k r found = absurd cc
found_name (e ∷ es) k r found =
    elim (eq_by_cmp name_cmp (name_of k r) (name_of e.0 e.1)) as
    (λ b. eq_by_cmp name_cmp (name_of k r) (name_of e.0 e.1) ≡ b → is_some (cond b (Some tt) (find name_cmp (name_of k r) (marked es))) ≡ true) [
      | true ↦ λ _. refl
      | false ↦ λ other.
          elim (eq_by_cmp customer_cmp k e.0) as (λ b. eq_by_cmp customer_cmp k e.0 ≡ b → cond b (Some e.1) (find customer_cmp k es) ≡ Some r
          → is_some (find name_cmp (name_of k r) (marked es)) ≡ true) [
            | true ↦ λ t h.
                let key : k ≡ e.0 = exact_customer.same k e.0 (tied _ t) in
                let same : name_of k r ≡ name_of e.0 e.1 = λ i. name_of (key i) (sym (same_Some _ _ h) i) in
                absurd (true≢false (sym (ap is_eq (tied_itself exact_name.total (name_of e.0 e.1)))
                ∙ ap (λ q. eq_by_cmp name_cmp q (name_of e.0 e.1)) (sym same) ∙ other))
            | false ↦ λ t h. found_name es k r h
          ] refl found
    ] refl

found_key : (es : List (CustomerKey × Customer)) (q : NameKey) → is_some (find name_cmp q (marked es)) ≡ true
    → is_some (find customer_cmp (record { warehouse = q.warehouse; district = q.district; customer = q.customer }) es) ≡ true
found_key [] q there = absurd (true≢false (sym there))
found_key (e ∷ es) q there =
    let key : CustomerKey = record { warehouse = q.warehouse; district = q.district; customer = q.customer } in
    elim (eq_by_cmp customer_cmp key e.0) as (λ b. eq_by_cmp customer_cmp key e.0 ≡ b → is_some (cond b (Some e.1) (find customer_cmp key es)) ≡ true) [
      | true ↦ λ _. refl
      | false ↦ λ other.
          elim (eq_by_cmp name_cmp q (name_of e.0 e.1)) as
          (λ b. eq_by_cmp name_cmp q (name_of e.0 e.1) ≡ b → is_some (cond b (Some tt) (find name_cmp q (marked es))) ≡ true
          → is_some (find customer_cmp key es) ≡ true) [
            | true ↦ λ t h.
                let same : q ≡ name_of e.0 e.1 = exact_name.same q (name_of e.0 e.1) (tied _ t) in
                let keys : key ≡ e.0 = λ i. record { warehouse = (same i).warehouse; district = (same i).district; customer = (same i).customer } in
                absurd (true≢false (sym (ap is_eq (tied_itself exact_customer.total e.0)) ∙ ap (λ k. eq_by_cmp customer_cmp k e.0) (sym keys) ∙ other))
            | false ↦ λ t h. found_key es q h
          ] refl there
    ] refl

-- what is among them and passes a test isn't lost by it
kept : (p : NameKey → Bool) (q : NameKey) (ks : List NameKey) → p q ≡ true → list_any (eq_by_cmp name_cmp q) ks ≡ true → 1 ≤ length (filter p ks)
kept p q [] passes any = absurd (true≢false (sym any))
kept p q (k ∷ ks) passes any =
    elim (eq_by_cmp name_cmp q k) as (λ b. eq_by_cmp name_cmp q k ≡ b → (b || list_any (eq_by_cmp name_cmp q) ks) ≡ true → 1 ≤ length (filter p (k ∷ ks))) [
      | true ↦ λ t _.
          let here : p k ≡ true = ap p (sym (exact_name.same q k (tied _ t))) ∙ passes in
          rw here (omega arith)
      | false ↦ λ t h. elim (p k) as (λ b. 1 ≤ length (cond b (k ∷ filter p ks) (filter p ks))) [ true ↦ omega arith | false ↦ kept p q ks passes h ]
    ] refl any

or_true : (b : Bool) → (b || true) ≡ true
or_true true = refl
or_true false = refl

-- and what is left by the test was among them, and passes it
left : (p : NameKey → Bool) (k : NameKey) (ks : List NameKey) (i : ℕ) → slice_get (filter p ks) i ≡ Some k → (p k ≡ true)
    × (list_any (eq_by_cmp name_cmp k) ks ≡ true)
left p k [] i h = absurd cc
left p k (j ∷ ks) i h =
    elim (p j) as (λ b. p j ≡ b → slice_get (cond b (j ∷ filter p ks) (filter p ks)) i ≡ Some k → (p k ≡ true)
    × (list_any (eq_by_cmp name_cmp k) (j ∷ ks) ≡ true)) [
      | true ↦ λ passes at. first (left p k ks) i passes at
      | false ↦ λ _ at. later (left p k ks i at)
    ] refl h
  where
    later : (p k ≡ true) × (list_any (eq_by_cmp name_cmp k) ks ≡ true) → (p k ≡ true) × (list_any (eq_by_cmp name_cmp k) (j ∷ ks) ≡ true)
    later r = (r.0, ap (λ b. eq_by_cmp name_cmp k j || b) r.1 ∙ or_true (eq_by_cmp name_cmp k j))

    first : ((n : ℕ) → slice_get (filter p ks) n ≡ Some k → (p k ≡ true) × (list_any (eq_by_cmp name_cmp k) ks ≡ true)) → (i : ℕ) → p j ≡ true
        → slice_get (j ∷ filter p ks) i ≡ Some k → (p k ≡ true) × (list_any (eq_by_cmp name_cmp k) (j ∷ ks) ≡ true)
    first rest zero passes at =
        let same : j ≡ k = same_Some _ _ at in (
          ap p (sym same) ∙ passes,
          ap (λ b. b || list_any (eq_by_cmp name_cmp k) ks)
              (ap (λ q. eq_by_cmp name_cmp k q) same ∙ ap is_eq (tied_itself exact_name.total k)),
        )
    first rest (suc n) passes at = later (rest n at)

middle_there : (ks : List NameKey) → 1 ≤ length ks → is_some (middle ks) ≡ true
middle_there [] some = absurd (omega arith)
middle_there (k ∷ ks) some = ap is_some (slice_get-get_or (k ∷ ks) ((length (k ∷ ks) + 1) / 2 - 1) k (omega arith))

still_some : (o : Option NameKey) → is_some (option_map (λ (k : NameKey). k.customer) o) ≡ is_some o
still_some None = refl
still_some (Some k) = refl

own : (k : CustomerKey) (r : Customer)
    → (is_district k.warehouse k.district (record { warehouse = k.warehouse; district = k.district }) && (r.last_name == r.last_name)) ≡ true
own k r = grind (arith, nat_tests)

-- a customer's last name means somebody in its district
pub somebody : (m : FinMap customer_cmp Customer) (k : CustomerKey) (r : Customer) → get m k ≡ Some r
    → IsSome (customer_named (names m) (record { warehouse = k.warehouse; district = k.district }) r.last_name)
somebody m k r found =
    let d : DistrictKey = record { warehouse = k.warehouse; district = k.district } in
    let among = is_among m (name_of k r) ∙ found_name (entries m) k r (sym (get-entries m k) ∙ found) in
    still_some (middle (named (names m) d r.last_name))
    ∙ middle_there (named (names m) d r.last_name)
    (kept (λ q. is_district q.warehouse q.district d && (q.last_name == r.last_name)) (name_of k r) (names m) (own k r) among)

-- and whom it means there is a customer of that district
pub its_customer : (m : FinMap customer_cmp Customer) (d : DistrictKey) (n c : ℕ) → customer_named (names m) d n ≡ Some c
    → IsSome (get m (record { warehouse = d.warehouse; district = d.district; customer = c }))
its_customer m d n c named_so = go (middle (named (names m) d n)) refl named_so
  where
    go : (o : Option NameKey) → middle (named (names m) d n) ≡ o → option_map (λ (k : NameKey). k.customer) o ≡ Some c
        → IsSome (get m (record { warehouse = d.warehouse; district = d.district; customer = c }))
    go None at is = absurd cc
    go (Some k) at is =
        let there = left (λ q. is_district q.warehouse q.district d && (q.last_name == n)) k (names m) _ at in
        let passes = there.0 in
        let w : k.warehouse ≡ d.warehouse = grind (arith, nat_tests, passes) in
        let e : k.district ≡ d.district = grind (arith, nat_tests, passes) in
        let key : CustomerKey = record { warehouse = k.warehouse; district = k.district; customer = k.customer } in
        let same : key ≡ record { warehouse = d.warehouse; district = d.district; customer = c } =
        λ i. record { warehouse = w i; district = e i; customer = same_Some _ _ is i } in
        ap (λ q. is_some (get m q)) (sym same) ∙ ap is_some (get-entries m key) ∙ found_key (entries m) k (sym (is_among m k) ∙ there.1)

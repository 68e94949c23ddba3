-- What a look-up tells of the row.
use Rattle.std.proofs.Common.{◌≡◌, ◌↔◌, ℤ, pos, cond, unwrap_or, List, [], ◌∷◌, Bool, true, false, not, Option, Some, None, is_some, is_none, refl, sym, ap, ◌∙◌}
use Rattle.std.specs.Map.{lookup}
use Rattle.std.specs.BTreeMap as tree
use Rattle.std.specs.BTreeMap.{BTreeMap, is_at}
use Rattle.std.specs.FinMap.{find, get, get-from_entries, from_entries}
use Rattle.std.specs.declared.cmp.Ordering.{Ordering}
use Rattle.tables.proofs.Orders.{IsExact}
use Rattle.tables.proofs.Views.{get-view}
use Rattle.conditions_walks.specs.Amounts.{amount_at}

-- any function of what was found, or of nothing
pub told : {K X A : Type 0} {R : K → K → Ordering} (o : IsExact R) (f : Option X → A) (m : BTreeMap K X) (k : K) (r : Option X) → r ≡ tree.get R m k
    → f r ≡ f (get (from_entries {R = R} m.entries) k)
told o f m k r e = ap f (e ∙ sym (get-view o m k))

find-lookup : {K X : Type 0} (R : K → K → Ordering) (es : List (K × X)) (q : K) → find R q es ≡ lookup (is_at (R q)) es
find-lookup R [] q = refl
find-lookup R (e ∷ es) q = ap (cond (is_at (R q) e.0) (Some e.1)) (find-lookup R es q)

-- the row of a table that a walk along its entries finds
pub get-walked : {K X : Type 0} {R : K → K → Ordering} (o : IsExact R) (es : List (K × X)) (q : K) → get (from_entries {R = R} es) q ≡ lookup (is_at (R q)) es
get-walked {R = R} o es q = get-from_entries o.total es q ∙ find-lookup R es q

-- all of them
pub walked_rows : {K X : Type 0} {R : K → K → Ordering} (o : IsExact R) (m : BTreeMap K X) (es : List (K × X)) → es ≡ m.entries
    → ◌≡◌ {A = K → Option X} (λ q. lookup (is_at (R q)) es) (λ q. get (from_entries {R = R} m.entries) q)
walked_rows {R = R} o m es along = λ i q. (ap (λ t. lookup (is_at (R q)) t) along ∙ sym (get-walked o m.entries q)) i

-- any function of what it found, or of nothing
pub walked : {K X A : Type 0} {R : K → K → Ordering} (o : IsExact R) (f : Option X → A) (m : BTreeMap K X) (k : K) (es : List (K × X)) (a : A) → es ≡ m.entries
    → a ≡ f (lookup (is_at (R k)) es) → a ≡ f (get (from_entries {R = R} m.entries) k)
walked {R = R} o f m k es a along e = e ∙ ap (λ t. f (lookup (is_at (R k)) t)) along ∙ ap f (sym (get-walked o m.entries k))

-- the sum of a group
pub walked_amount : {K : Type 0} (R : K → K → Ordering) (sums : BTreeMap K ℤ) (k : K) (es : List (K × ℤ)) (a : ℤ) → es ≡ sums.entries
    → a ≡ unwrap_or (lookup (is_at (R k)) es) (pos 0) → a ≡ amount_at R sums k
walked_amount R sums k es a along e = e ∙ ap (λ t. unwrap_or (lookup (is_at (R k)) t) (pos 0)) along

-- `is_none` says that it isn't some
pub none_test : {X : Type 0} (o : Option X) (b : Bool) → is_some o ≡ not b → b ≡ is_none o
none_test None true e = refl
none_test None false e = e
none_test (Some x) true e = e
none_test (Some x) false e = refl

-- a test of what two things are
pub same_told : {A P : Type 0} (a b x y : A) → P ↔ (a ≡ b) → a ≡ x → b ≡ y → P ↔ (x ≡ y)
same_told a b x y tests left right = (λ p. sym left ∙ tests.0 p ∙ right, λ e. tests.1 (left ∙ e ∙ sym right))

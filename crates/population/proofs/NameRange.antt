-- The names of a district with a last name are those between two keys.
use Rattle.std.proofs.Common.{◌≡◌, ℕ, ◌+◌, ◌-◌, ◌/◌, Bool, true, false, not, cond, ◌&&◌, ◌||◌, ◌==◌, nat_lt, Option, List, [], ◌∷◌, length, refl, ap, ◌∙◌}
use Rattle.std.proofs.Common.{arith}
use Rattle.std.proofs.lemmas.Bool.Decides.{nat_tests}
use Rattle.std.specs.List.{filter, slice_get}
use Rattle.std.specs.Option.{option_map}
use Rattle.std.specs.Ordering.{is_le, nat_cmp, ordering_then}
use Rattle.std.specs.BTreeMap.Range.{range_contains}
use Rattle.std.specs.declared.cmp.Ordering.{Ordering}
use Rattle.std.specs.declared.cmp.Ordering.TheVariants.{Less, Equal, Greater}
use Rattle.std.specs.declared.ops.Bound.TheVariants.{Included, Excluded}
use Rattle.tables.specs.Keys.{is_district}
use Rattle.tables.specs.Names.{name_cmp, named, middle}
use Rattle.tables.specs.declared.keys.DistrictKey.{DistrictKey}
use Rattle.tables.specs.declared.names.NameKey.{NameKey}

le_then : (x y : ℕ) (r : Ordering) → is_le (ordering_then (nat_cmp x y) r) ≡ (nat_lt x y || ((x == y) && is_le r))
le_then x y r = elim (nat_lt x y) as (λ b. is_le (ordering_then (cond b Less (cond (x == y) Equal Greater)) r) ≡ (b || ((x == y) && is_le r))) [
  | true ↦ refl
  | false ↦ elim (x == y) as (λ b. is_le (ordering_then (cond b Equal Greater) r) ≡ (b && is_le r)) [ true ↦ refl | false ↦ refl ]
]

-- the first name that a district may have with this last name
abbrev pub first : DistrictKey → ℕ → NameKey
first d n = record { warehouse = d.warehouse; district = d.district; last_name = n; first_name = 0; customer = 0 }

from_first : (d : DistrictKey) (n : ℕ) (k : NameKey) → is_le (name_cmp (first d n) k)
    ≡ (nat_lt d.warehouse k.warehouse
    || ((d.warehouse == k.warehouse) && (nat_lt d.district k.district || ((d.district == k.district) && (nat_lt n k.last_name || (n == k.last_name))))))
from_first d n k =
    let least : is_le (ordering_then (nat_cmp 0 k.first_name) (nat_cmp 0 k.customer)) ≡ true = le_then 0 k.first_name (nat_cmp 0 k.customer)
    ∙ grind (arith, nat_tests) in
    let names : is_le (ordering_then (nat_cmp n k.last_name) (ordering_then (nat_cmp 0 k.first_name) (nat_cmp 0 k.customer))) ≡ (nat_lt n k.last_name
    || ((n == k.last_name) && true)) = le_then n k.last_name _ ∙ ap (λ b. nat_lt n k.last_name || ((n == k.last_name) && b)) least in
    le_then d.warehouse k.warehouse _ ∙ ap (λ b. nat_lt d.warehouse k.warehouse || ((d.warehouse == k.warehouse) && b))
    (le_then d.district k.district _ ∙ ap (λ b. nat_lt d.district k.district || ((d.district == k.district) && b)) (names ∙ grind (arith, nat_tests)))

in_range : (d : DistrictKey) (n : ℕ) (k : NameKey)
    → range_contains name_cmp (Included (first d n)) (Excluded (first d (n + 1))) k ≡ (is_district k.warehouse k.district d && (k.last_name == n))
in_range d n k = (λ i. from_first d n k i && not (from_first d (n + 1) k i)) ∙ grind (arith, nat_tests)

alike : (p q : NameKey → Bool) → ((k : NameKey) → p k ≡ q k) → (ks : List NameKey) → filter p ks ≡ filter q ks
alike p q same [] = refl
alike p q same (k ∷ ks) = λ i. cond (same k i) (k ∷ alike p q same ks i) (alike p q same ks i)

-- what lies between them
pub between : (d : DistrictKey) (n : ℕ) (ks : List NameKey) → filter (range_contains name_cmp (Included (first d n)) (Excluded (first d (n + 1)))) ks ≡ named ks
    d n
between d n ks = alike _ _ (in_range d n) ks

-- the one at the middle place of those, or nobody
pub chosen : (ks : List NameKey) (found : Option NameKey) (count place : ℕ) → count ≡ length ks → place ≡ (count + 1) / 2 - 1 → found ≡ slice_get ks place
    → option_map (λ (k : NameKey). k.customer) found ≡ option_map (λ (k : NameKey). k.customer) (middle ks)
chosen ks found count place counted at is = ap (option_map (λ (k : NameKey). k.customer)) (is ∙ ap (slice_get ks) (at ∙ ap (λ n. (n + 1) / 2 - 1) counted))

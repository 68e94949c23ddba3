-- The order numbers of a district's rows rise strictly, and each is the number of a row.
use Rattle.std.proofs.Common.{◌≡◌, ℕ, ◌<◌, min, Bool, true, false, cond, T, List, [], ◌∷◌, map, filter, Option, Some, None, IsSome, is_some, refl, sym, ap, ◌∙◌}
use Rattle.std.proofs.Common.{subst, arith}
use Rattle.std.proofs.lemmas.Bool.Decides.{nat_tests}
use Rattle.std.proofs.lemmas.Option.{same_Some}
use Rattle.std.specs.List.{AllByRecursion}
use Rattle.std.specs.Option.{option_map_or}
use Rattle.std.specs.Ordering.{eq_by_cmp, is_lt, nat_cmp, ordering_then}
use Rattle.std.specs.Cmp.{tied_itself}
use Rattle.std.specs.FinMap.{FinMap, entries, entries_sorted, get, get-entries, find, is_sorted}
use Rattle.std.specs.FinMap.Entries.{below_all}
use Rattle.std.specs.declared.cmp.Ordering.{Ordering}
use Rattle.std.specs.declared.cmp.Ordering.TheVariants.{Less, Equal, Greater}
use Rattle.tables.specs.Keys.{order_cmp, is_district}
use Rattle.tables.specs.OrderNumbers.{least, numbers_in}
use Rattle.tables.specs.declared.keys.DistrictKey.{DistrictKey}
use Rattle.tables.specs.declared.keys.OrderKey.{OrderKey}
use Rattle.tables.proofs.Orders.{IsExact, exact_number, exact_order}
use Rattle.tables.proofs.Entries.{first, second, tied, found_first, found_after}
use Rattle.tables_laws.proofs.Touched.{district_named}

-- ---- of a list of numbers
-- each is less than all after it
abbrev pub Rises : List ℕ → Type 0
Rises [] = Unit {0}
Rises (n ∷ ns) = AllByRecursion (λ m. n < m) ns × Rises ns

least_above : (n : ℕ) (ns : List ℕ) → AllByRecursion (λ m. n < m) ns → option_map_or (min n) (least ns) n ≡ n
least_above n [] h = refl
least_above n (m ∷ ms) h = go (least ms) (least_above n ms h.1)
  where
    go : (w : Option ℕ) → option_map_or (min n) w n ≡ n → min n (option_map_or (min m) w m) ≡ n
    go None e = omega (arith, h.0)
    go (Some y) e = omega (arith, h.0, e)

-- so the least is the first
pub least_first : (n : ℕ) (ns : List ℕ) → Rises (n ∷ ns) → least (n ∷ ns) ≡ Some n
least_first n ns h = ap Some (least_above n ns h.0)

-- what holds of rising numbers holds of the least
least_holds : (P : ℕ → Type 0) (ns : List ℕ) → Rises ns → AllByRecursion P ns → (o : ℕ) → least ns ≡ Some o → P o
least_holds P [] rise all o is = cc
least_holds P (n ∷ ns) rise all o is = subst P (same_Some _ _ (sym (least_first n ns rise) ∙ is)) all.0

-- ---- of a table
less : (r : Ordering) → T (is_lt r) → r ≡ Less
less Less p = refl
less Equal p = absurd p
less Greater p = absurd p

-- a key that is below all of some entries is below each that is found there
below_found : {K X : Type 0} {R : K → K → Ordering} → IsExact R → (k q : K) (r : X) (es : List (K × X)) → T (below_all R k es) → find R q es ≡ Some r
    → R k q ≡ Less
below_found o k q r [] h found = cc
below_found {R = R} o k q r (e ∷ es) h found =
    elim (eq_by_cmp R q e.0) as (λ b. eq_by_cmp R q e.0 ≡ b → cond b (Some e.1) (find R q es) ≡ Some r → R k q ≡ Less) [
      | true ↦ λ t _. ap (R k) (o.same q e.0 (tied _ t)) ∙ less _ (first _ _ h)
      | false ↦ λ t f. below_found o k q r es (second _ _ h) f
    ] refl found

number_less : (a b : ℕ) → nat_cmp a b ≡ Less → a < b
number_less a b h = grind (arith, nat_tests)

-- in one district the order of the keys is that of their numbers
number_rises : (k : DistrictKey) (a b : OrderKey) → is_district a.warehouse a.district k ≡ true → is_district b.warehouse b.district k ≡ true
    → order_cmp a b ≡ Less → a.order < b.order
number_rises k a b at bt less =
    let same : ◌≡◌ {A = DistrictKey} (record { warehouse = a.warehouse; district = a.district }) (record { warehouse = b.warehouse; district = b.district }) =
    district_named a.warehouse a.district k at ∙ sym (district_named b.warehouse b.district k bt) in
    number_less a.order b.order (
    (λ i. ordering_then (sym (tied_itself exact_number.total b.warehouse) i)
    (ordering_then (sym (tied_itself exact_number.total b.district) i) (nat_cmp a.order b.order)))
    ∙ (λ i. ordering_then (nat_cmp (sym same i).warehouse b.warehouse) (ordering_then (nat_cmp (sym same i).district b.district) (nat_cmp a.order b.order)))
    ∙ less
    )

module _ {X : Type 0} (k : DistrictKey) where
  abbrev within : OrderKey × X → Bool
  within e = is_district e.0.warehouse e.0.district k

  abbrev numbers : List (OrderKey × X) → List ℕ
  numbers es = map (λ (e : OrderKey × X). e.0.order) (filter within es)

  -- what holds of each row's number in the district
  entries_within : (P : ℕ → Type 0) (es : List (OrderKey × X)) → T (is_sorted order_cmp es)
      → ((j : OrderKey) (r : X) → find order_cmp j es ≡ Some r → is_district j.warehouse j.district k ≡ true → P j.order) → AllByRecursion P (numbers es)
  entries_within P [] h each = tt
  entries_within P (e ∷ es) h each =
      let rest = entries_within P es (second _ _ h) (λ j r found. each j r (found_after exact_order j r e es (first _ _ h) found)) in
      elim (within e) as (λ b. within e ≡ b → AllByRecursion P (map (λ (e : OrderKey × X). e.0.order) (cond b (e ∷ filter within es) (filter within es)))) [
        | true ↦ λ t. (each e.0 e.1 (found_first exact_order e es) t, rest)
        | false ↦ λ t. rest
      ] refl

  entries_rise : (es : List (OrderKey × X)) → T (is_sorted order_cmp es) → Rises (numbers es)
  entries_rise [] h = tt
  entries_rise (e ∷ es) h =
      let rest = entries_rise es (second _ _ h) in
      elim (within e) as (λ b. within e ≡ b → Rises (map (λ (e : OrderKey × X). e.0.order) (cond b (e ∷ filter within es) (filter within es)))) [
        | true ↦ λ t. (
          entries_within (λ m. e.0.order < m) es (second _ _ h)
              (λ j r found u. number_rises k e.0 j t u (below_found exact_order e.0 j r es (first _ _ h) found)),
          rest,
        )
        | false ↦ λ t. rest
      ] refl

  pub numbers_rise : (m : FinMap order_cmp X) → Rises (numbers_in k m)
  numbers_rise m = entries_rise (entries m) (entries_sorted m)

  -- the row that the least is the number of
  pub least_row : (m : FinMap order_cmp X) (o : ℕ) → least (numbers_in k m) ≡ Some o
      → IsSome (get m (record { warehouse = k.warehouse; district = k.district; order = o }))
  least_row m = least_holds (λ o. IsSome (get m (record { warehouse = k.warehouse; district = k.district; order = o }))) (numbers_in k m) (numbers_rise m)
      (entries_within _ (entries m) (entries_sorted m) (λ j r found at.
      let named = district_named j.warehouse j.district k at in
      ap is_some ((λ i. get m (record { warehouse = (sym named i).warehouse; district = (sym named i).district; order = j.order })) ∙ get-entries m j ∙ found)))

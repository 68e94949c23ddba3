-- The order numbers of a district: the greatest, the least, and how many there are.
use Rattle.std.proofs.Common.{◌≡◌, ℕ, suc, ℤ, pos, ◌+ℤ◌, Bool, true, false, cond, ◌==◌, true≢false, List, [], ◌∷◌, map, length, Option, Some, None, IsSome}
use Rattle.std.proofs.Common.{refl, sym, ◌∙◌, arith}
use Rattle.std.specs.List.{filter}
use Rattle.std.specs.FinMap.{FinMap, entries, get}
use Rattle.std.proofs.lemmas.Bool.{and_from}
use Rattle.std.proofs.lemmas.Bool.Decides.{nat_tests}
use Rattle.std.proofs.lemmas.Int.{ints}
use Rattle.std.proofs.lemmas.Option.{same_Some}
use Rattle.tables.specs.Sizes.{IsBetween}
use Rattle.tables.specs.Keys.{order_cmp, order_key, is_district}
use Rattle.tables.specs.Maps.{sum_entries, total, count, EachRow}
use Rattle.tables.specs.OrderNumbers.{least, greatest, numbers_in}
use Rattle.tables.specs.declared.keys.DistrictKey.{DistrictKey}
use Rattle.tables.specs.declared.keys.OrderKey.{OrderKey}
use Rattle.tables.proofs.OrderNumbers.{greatest-each, greatest-within, least-each, least-within}

itself : (i : ℕ) → (i == i) ≡ true
itself i = grind (arith, nat_tests)

module _ {X : Type 0} (k : DistrictKey) where
  abbrev in_district : OrderKey × X → Bool
  in_district e = is_district e.0.warehouse e.0.district k

  abbrev number : OrderKey × X → ℕ
  number e = e.0.order

  -- the entries that pass are as many as the ones of a sum
  entries_counted : (es : List (OrderKey × X)) → pos (length (map number (filter in_district es))) ≡ sum_entries
      (λ (j : OrderKey) (r : X). cond (is_district j.warehouse j.district k) (pos 1) (pos 0)) es
  entries_counted [] = refl
  entries_counted (e ∷ es) =
      elim (in_district e) as (λ b. pos (length (map number (cond b (e ∷ filter in_district es) (filter in_district es)))) ≡ cond b (pos 1)
      (pos 0) +ℤ sum_entries (λ (j : OrderKey) (r : X). cond (is_district j.warehouse j.district k) (pos 1) (pos 0)) es) [
        | true ↦ one_more _ _ (entries_counted es)
        | false ↦ none_more _ _ (entries_counted es)
      ]
    where
      one_more : (n : ℕ) (z : ℤ) → pos n ≡ z → pos (suc n) ≡ pos 1 +ℤ z
      one_more n z h = omega (arith, ints)

      none_more : (n : ℕ) (z : ℤ) → pos n ≡ z → pos n ≡ pos 0 +ℤ z
      none_more n z h = omega (arith, ints)

  pub numbers_counted : (m : FinMap order_cmp X) → pos (length (numbers_in k m)) ≡ count (λ j r. is_district j.warehouse j.district k) m
  unfolding total
  numbers_counted m = entries_counted (entries m)

  -- the row of a number in the district
  row_of : (n : ℕ) (m : FinMap order_cmp X) → IsSome (get m (order_key k n)) → (r : X) × (get m (order_key k n) ≡ Some r)
      × (in_district (order_key k n, r) ≡ true)
  row_of n m some = row (get m (order_key k n)) refl some
    where
      row : (o : Option X) → get m (order_key k n) ≡ o → IsSome o → (r : X) × (get m (order_key k n) ≡ Some r) × (in_district (order_key k n, r) ≡ true)
      row None found is = absurd (true≢false (sym is))
      row (Some r) found is = (r, found, and_from _ _ (itself k.warehouse) (itself k.district))

  -- the greatest and the least of numbers that reach from low to high
  module _ (low high : ℕ) (m : FinMap order_cmp X) (within : EachRow (λ j r. is_district j.warehouse j.district k ≡ true → IsBetween low high j.order) m) where
    pub greatest_number : IsSome (get m (order_key k high)) → greatest (numbers_in k m) ≡ high
    greatest_number some =
        let row = row_of high m some in
        omega (
          arith,
          greatest-within in_district high m (λ j r found passes. (within j r found passes).1),
          greatest-each in_district m (order_key k high) row.0
              row.1 row.2,
        )

    pub least_number : IsSome (get m (order_key k low)) → (x : ℕ) → least (numbers_in k m) ≡ Some x → x ≡ low
    least_number some x is =
        let row = row_of low m some in
        let reached = least-each in_district m (order_key k low) row.0 row.1 row.2 in
        let same : reached.0 ≡ x = same_Some _ _ (sym reached.1 ∙ is) in
        omega (arith, least-within in_district low m (λ j r found passes. (within j r found passes).0) x is, reached.2)

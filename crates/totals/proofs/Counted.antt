-- How many numbers of a district's rows there are, as a sum over the rows.
use Rattle.std.proofs.Common.{◌≡◌, ℕ, suc, ℤ, pos, ◌+ℤ◌, true, false, cond, List, [], ◌∷◌, map, filter, length, refl, arith}
use Rattle.std.proofs.lemmas.Int.{ints}
use Rattle.std.specs.FinMap.{FinMap, entries}
use Rattle.tables.specs.Keys.{order_cmp, is_district}
use Rattle.tables.specs.Maps.{sum_entries, total, count}
use Rattle.tables.specs.OrderNumbers.{numbers_in}
use Rattle.tables.specs.declared.keys.DistrictKey.{DistrictKey}
use Rattle.tables.specs.declared.keys.OrderKey.{OrderKey}

module _ {X : Type 0} (k : DistrictKey) where
  counted_entries : (es : List (OrderKey × X))
      → pos (length (map (λ (e : OrderKey × X). e.0.order) (filter (λ (e : OrderKey × X). is_district e.0.warehouse e.0.district k) es)))
      ≡ sum_entries (λ j r. cond (is_district j.warehouse j.district k) (pos 1) (pos 0)) es
  counted_entries [] = refl
  counted_entries (e ∷ es) = elim (is_district e.0.warehouse e.0.district k) as
      (λ b. pos (length (map (λ (e : OrderKey × X). e.0.order) (cond b (e ∷ filter (λ (e : OrderKey × X). is_district e.0.warehouse e.0.district k) es)
      (filter (λ (e : OrderKey × X). is_district e.0.warehouse e.0.district k) es))))
      ≡ cond b (pos 1) (pos 0) +ℤ sum_entries (λ j r. cond (is_district j.warehouse j.district k) (pos 1) (pos 0)) es) [
        | true ↦ one_more _ _ (counted_entries es)
        | false ↦ none_more _ _ (counted_entries es)
      ]
    where
      one_more : (n : ℕ) (z : ℤ) → pos n ≡ z → pos (suc n) ≡ pos 1 +ℤ z
      one_more n z e = omega (arith, ints)

      none_more : (n : ℕ) (z : ℤ) → pos n ≡ z → pos n ≡ pos 0 +ℤ z
      none_more n z e = omega (arith, ints)

  pub counted : (m : FinMap order_cmp X) → pos (length (numbers_in k m)) ≡ count (λ j r. is_district j.warehouse j.district k) m
  unfolding total
  counted m = counted_entries (entries m)

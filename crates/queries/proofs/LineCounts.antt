-- The numbers of lines of a district's orders: one order more, and that of one of them.
use Rattle.std.proofs.Common.{◌≡◌, ℕ, ◌+◌, ◌-◌, ◌<◌, ◌≤◌, [], ◌∷◌, ◌++◌, get_or, ap, ◌∙◌, arith}
use Rattle.std.proofs.lemmas.List.FromFn.{get_or-map-range_with_len, map-range_with_len_more}
use Rattle.tables.specs.Keys.{order_key}
use Rattle.tables.specs.Database.{Database}
use Rattle.tables.specs.declared.keys.DistrictKey.{DistrictKey}
use Rattle.queries.specs.SoldItems.{order_line_count, order_line_counts}

module _ (t : Database) (d : DistrictKey) (first o : ℕ) (low : first ≤ o) where
  pub counts_more : order_line_counts t d first (o + 1 - first) ≡ order_line_counts t d first (o - first) ++ order_line_count t (order_key d o) ∷ []
  counts_more =
      let next : o + 1 - first ≡ o - first + 1 = omega (arith, low) in
      ap (order_line_counts t d first) next
      ∙ map-range_with_len_more (λ n. order_line_count t (order_key d n)) first (o - first) o (omega (arith, low))

  pub count_at : (next z : ℕ) → o < next → get_or (order_line_counts t d first (next - first)) (o - first) z ≡ order_line_count t (order_key d o)
  count_at next z high =
      get_or-map-range_with_len (λ n. order_line_count t (order_key d n)) first (next - first) (o - first) o z (omega (arith, low, high)) (omega (arith, low))

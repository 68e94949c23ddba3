-- Sums over a table: of updated rows, and of two summands.
use Rattle.std.proofs.Common.{◌≡◌, ℤ, ◌+ℤ◌, List, [], ◌∷◌, refl, ap, ◌∙◌, arith}
use Rattle.std.proofs.lemmas.Int.{ints}
use Rattle.std.specs.FinMap.{FinMap, entries}
use Rattle.std.specs.declared.cmp.Ordering.{Ordering}
use Rattle.tables.specs.Maps.{sum_entries, map_entries, total, map_rows}
use Rattle.tables_laws.proofs.Updates.{entries-map_rows}

module _ {K X : Type 0} where
  sum_mapped : (f : K → X → ℤ) (g : K → X → X) (es : List (K × X)) → sum_entries f (map_entries g es) ≡ sum_entries (λ k r. f k (g k r)) es
  sum_mapped f g [] = refl
  sum_mapped f g (e ∷ es) = ap (λ a. f e.0 (g e.0 e.1) +ℤ a) (sum_mapped f g es)

  sum_added : (f g : K → X → ℤ) (es : List (K × X)) → sum_entries (λ k r. f k r +ℤ g k r) es ≡ sum_entries f es +ℤ sum_entries g es
  sum_added f g [] = refl
  sum_added f g (e ∷ es) = ap (λ a. (f e.0 e.1 +ℤ g e.0 e.1) +ℤ a) (sum_added f g es) ∙ crossed (f e.0 e.1) (g e.0 e.1) (sum_entries f es) (sum_entries g es)
    where
      crossed : (a b c d : ℤ) → (a +ℤ b) +ℤ (c +ℤ d) ≡ (a +ℤ c) +ℤ (b +ℤ d)
      crossed a b c d = omega (arith, ints)

module _ {K X : Type 0} {R : K → K → Ordering} where
  pub total-mapped : (f : K → X → ℤ) (g : K → X → X) (m : FinMap R X) → total f (map_rows g m) ≡ total (λ k r. f k (g k r)) m
  unfolding total
  total-mapped f g m = ap (sum_entries f) (entries-map_rows g m) ∙ sum_mapped f g (entries m)

  pub total-added : (f g : K → X → ℤ) (m : FinMap R X) → total (λ k r. f k r +ℤ g k r) m ≡ total f m +ℤ total g m
  unfolding total
  total-added f g m = sum_added f g (entries m)

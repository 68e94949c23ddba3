-- Finite maps as tables: sums over rows, and UPDATE .. WHERE.
use Rattle.std.specs.Prelude.{◌≡◌, ◌↔◌, ℤ, pos, ◌+ℤ◌, Bool, Some, List, [], ◌∷◌, map, fold, cond, IsSome}
use Rattle.std.specs.Option.{option_map_or}
use Rattle.std.specs.FinMap.{FinMap, entries, from_sorted, get}
use Rattle.std.specs.declared.cmp.Ordering.{Ordering}

-- the sum of f over a list of entries
abbrev pub sum_entries : {K X : Type 0} → (K → X → ℤ) → List (K × X) → ℤ
sum_entries f [] = pos 0
sum_entries f (e ∷ es) = f e.0 e.1 +ℤ sum_entries f es

-- the entries, with g k r in the place of the row r at the key k
abbrev pub map_entries : {K X : Type 0} → (K → X → X) → List (K × X) → List (K × X)
map_entries {K} {X} g es = map (λ (e : K × X). (e.0, g e.0 e.1)) es

-- the sum over rows without a key, as those of HISTORY
abbrev pub sum_of : {X : Type 0} → (X → ℤ) → List X → ℤ
sum_of f rows = fold (λ a r. a +ℤ f r) (pos 0) rows

module _ {K X : Type 0} {R : K → K → Ordering} where
  -- the sum of f over the rows of a table
  unfoldable pub total : (K → X → ℤ) → FinMap R X → ℤ
  total f m = sum_entries f (entries m)

  -- the sum of a column over the rows that pass a test, as by SELECT SUM .. WHERE
  abbrev pub sum_where : (K → X → Bool) → (X → ℤ) → FinMap R X → ℤ
  sum_where p f m = total (λ k r. cond (p k r) (f r) (pos 0)) m

  -- how many rows pass a test
  abbrev pub count : (K → X → Bool) → FinMap R X → ℤ
  count p m = sum_where p (λ r. pos 1) m

  -- each row changed by g
  unfoldable pub map_rows : (K → X → X) → FinMap R X → FinMap R X
  map_rows g m = from_sorted (map_entries g (entries m))

  -- the rows whose key passes p changed by g, as by UPDATE .. WHERE p
  abbrev pub update_where : (K → Bool) → (X → X) → FinMap R X → FinMap R X
  update_where p g m = map_rows (λ k r. cond (p k) (g r) r) m

  -- the column f of the row at k. A column of a missing row counts as 0
  abbrev pub column : (X → ℤ) → FinMap R X → K → ℤ
  column f m k = option_map_or f (get m k) (pos 0)

  -- rows stand exactly at these keys
  abbrev pub RowsAt : (K → Type 0) → FinMap R X → Type 0
  RowsAt IsKey m = (k : K) → IsSome (get m k) ↔ IsKey k

  -- rows stand only at these keys
  abbrev pub RowsWithin : (K → Type 0) → FinMap R X → Type 0
  RowsWithin IsKey m = (k : K) → IsSome (get m k) → IsKey k

  -- P holds of each row and its key
  abbrev pub EachRow : (K → X → Type 0) → FinMap R X → Type 0
  EachRow P m = (k : K) (r : X) → get m k ≡ Some r → P k r

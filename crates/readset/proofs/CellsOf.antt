-- How many cells a scale's records have, and which of them are C_DATA's.
use Rattle.std.proofs.Common.{◌≡◌, ℕ, ◌<◌, ◌+◌, ◌≤◌, length, arith, subst, sym}
use Rattle.tables.specs.Sizes.{Sizes}
use Rattle.tables.specs.Records.{narrow_count, record_count, number_of_key, customer_place}
use Rattle.tables.specs.declared.keys.CustomerKey.{CustomerKey}
use Rattle.tables.specs.declared.records.RecordKey.TheVariants as key
use Rattle.cells.specs.Records.{CellsView, cell_count}
use Rattle.readset.specs.Cells.{AreCellsOf}

pub count_of : (s : Sizes) (cells : CellsView) → AreCellsOf s cells → cell_count cells ≡ record_count s
count_of s cells are = omega (arith, are.narrow, are.wide)

pub narrow_cell : (s : Sizes) (cells : CellsView) → AreCellsOf s cells → (n : ℕ) → n < narrow_count s → n < length cells.narrow
narrow_cell s cells are n small = subst (λ m. n < m) (sym are.narrow) small

-- the record of a customer's C_DATA is wide
behind_narrow : (s : Sizes) (k : CustomerKey) → narrow_count s ≤ number_of_key s (key.CustomerData k)
behind_narrow s k = at_or_behind (narrow_count s) (customer_place s k)
  where
    at_or_behind : (a b : ℕ) → a ≤ a + b
    at_or_behind a b = omega arith

pub wide_cell : (s : Sizes) (cells : CellsView) → AreCellsOf s cells → (k : CustomerKey) (n : ℕ) → n ≡ number_of_key s (key.CustomerData k)
    → n < record_count s → (length cells.narrow ≤ n) × (n < cell_count cells)
wide_cell s cells are k n at inside = (
  subst (λ (p : ℕ × ℕ). p.0 ≤ p.1) (λ i. (sym are.narrow i, sym at i)) (behind_narrow s k),
  subst (λ m. n < m) (sym (count_of s cells are)) inside,
)

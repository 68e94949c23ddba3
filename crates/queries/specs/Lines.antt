-- An order's lines by their numbers (TPC-C 2.6.2.2).
use Rattle.std.specs.Prelude.{ℕ, zero, suc, Option, List, [], ◌++◌}
use Rattle.std.specs.Option.{option_to_list}
use Rattle.std.specs.FinMap.{get}
use Rattle.tables.specs.Database.{Database}
use Rattle.tables.specs.NewOrder.{line_key}
use Rattle.tables.specs.declared.keys.OrderKey.{OrderKey}
use Rattle.tables.specs.declared.rows.OrderLine.{OrderLine}

-- the rows that are there, at the numbers from 1 to n
abbrev pub rows_to : {X : Type 0} → (ℕ → Option X) → ℕ → List X
rows_to f zero = []
rows_to f (suc n) = rows_to f n ++ option_to_list (f (suc n))

-- an order's lines from 1 to n, in the order of their numbers
abbrev pub lines_up_to : Database → OrderKey → ℕ → List OrderLine
lines_up_to t k n = rows_to (λ i. get t.lines (line_key k i)) n

use Rattle.std.proofs.Common.{ℕ, ◌<◌, ◌≤◌}
use Rattle.tables.specs.Database.{database}
use Rattle.conditions.proofs.search.least_warehouse.Given as goal

abbrev pub invariant-loop-warehouse : goal.invariant-loop-warehouse
invariant-loop-warehouse g l = (w : ℕ) → 1 ≤ w → w < l.warehouse-counter → g.C.Condition.holds_at (database l.tables) w

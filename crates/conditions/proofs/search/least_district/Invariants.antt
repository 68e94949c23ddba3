use Rattle.std.proofs.Common.{ℕ, ◌<◌, ◌≤◌}
use Rattle.tables.specs.Sizes.{IsNumber}
use Rattle.tables.specs.Database.{database}
use Rattle.conditions.proofs.search.least_district.Given as goal

abbrev pub invariant-loop-warehouse : goal.invariant-loop-warehouse
invariant-loop-warehouse g l = (w d : ℕ) → 1 ≤ w → w < l.warehouse → IsNumber l.tables.scale.districts d
    → g.C.Condition.holds_at (database l.tables) (record { warehouse = w; district = d })

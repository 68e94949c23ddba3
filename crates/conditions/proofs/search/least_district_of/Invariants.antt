use Rattle.std.proofs.Common.{ℕ, ◌<◌, ◌≤◌}
use Rattle.tables.specs.Database.{database}
use Rattle.conditions.proofs.search.least_district_of.Given as goal

abbrev pub invariant-loop-district : goal.invariant-loop-district
invariant-loop-district g l = (d : ℕ) → 1 ≤ d → d < l.district
    → g.C.Condition.holds_at (database l.tables) (record { warehouse = l.warehouse; district = d })

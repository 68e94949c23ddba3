use Rattle.std.proofs.Common.{ℕ, ◌<◌, ◌≤◌}
use Rattle.tables.specs.Sizes.{IsNumber}
use Rattle.tables.specs.Database.{database}
use Rattle.conditions.specs.CustomerWalks.{AreWalksOf}
use Rattle.conditions.proofs.search.least_customer.Given as goal

abbrev pub invariant-loop-warehouse : goal.invariant-loop-warehouse
invariant-loop-warehouse g l = record {
  walks : AreWalksOf l.tables l.sums l.walks;
  below : (w d c : ℕ) → 1 ≤ w → w < l.warehouse → IsNumber l.tables.scale.districts d → IsNumber l.tables.scale.customers c
      → g.C.CustomerCondition.holds_at (database l.tables) (record { warehouse = w; district = d; customer = c });
}

abbrev pub invariant-loop-district : goal.invariant-loop-district
invariant-loop-district g l = record {
  walks : AreWalksOf l.tables l.sums l.walks;
  below : (d c : ℕ) → 1 ≤ d → d < l.district → IsNumber l.tables.scale.customers c
      → g.C.CustomerCondition.holds_at (database l.tables) (record { warehouse = l.warehouse; district = d; customer = c });
}

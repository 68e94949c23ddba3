use Rattle.std.proofs.Common.{ℕ, ◌<◌, ◌≤◌}
use Rattle.tables.specs.Database.{database}
use Rattle.conditions.specs.CustomerWalks.{AreWalksOf}
use Rattle.conditions.proofs.search.least_customer_of.Given as goal

abbrev pub invariant-loop-customer : goal.invariant-loop-customer
invariant-loop-customer g l = record {
  walks : AreWalksOf l.tables l.sums l.walks;
  below : (c : ℕ) → 1 ≤ c → c < l.customer
      → g.C.CustomerCondition.holds_at (database l.tables) (record { warehouse = l.warehouse; district = l.district; customer = c });
}

use Rattle.std.proofs.Common.{◌≡◌}
use Rattle.tables.specs.Database.{Database}
use Rattle.totals.specs.Counts.{AreHeld}
use Rattle.totals_report.specs.Told.{HasTotals}
use Rattle.totals_report.specs.Found.{IsFound}
use Rattle.totals_report.proofs.reporting.report_of.Given as goal

-- the pen is as it was, and the records below this were asked
abbrev pub invariant-loop-number : goal.invariant-loop-number
invariant-loop-number l = record {
  pen : l.pen ≡ l.fn.pen;
  found : (t : Database) → HasTotals l.sums l.bounds t → AreHeld l.fn.pen t → IsFound t l.number l.report;
}

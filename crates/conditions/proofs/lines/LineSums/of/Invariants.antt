use Rattle.conditions.proofs.LineSteps.{AreUnderWay}
use Rattle.conditions.proofs.lines.LineSums.of.Given as goal

abbrev pub invariant-loop-key : goal.invariant-loop-key
invariant-loop-key l = AreUnderWay l.tables.orders.entries l.tables.lines.entries l.key-iterator l.sums

use Rattle.readset.proofs.Ordered.{AreListed}
use Rattle.readset.proofs.arrivals.Arrivals.listed.Given as goal

abbrev pub invariant-loop-place : goal.invariant-loop-place
invariant-loop-place g l = AreListed l.self.entries.items l.order.items l.place

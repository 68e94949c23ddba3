use Rattle.recover_found.proofs.LastMarks.{IsLeastSoFar}
use Rattle.recover_found.proofs.durable.durable_of.Given as goal

abbrev pub invariant-loop-bodies : goal.invariant-loop-bodies
invariant-loop-bodies l = IsLeastSoFar l.files l.bodies-index l.durable

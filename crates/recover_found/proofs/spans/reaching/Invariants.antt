use Rattle.recover_found.proofs.Reaching.{IsRaisedTo}
use Rattle.recover_found.proofs.spans.reaching.Given as goal

abbrev pub invariant-loop-n : goal.invariant-loop-n
invariant-loop-n l = IsRaisedTo l.initial.spans.items l.spans.items l.n l.high

use Rattle.std.proofs.Common.{drop}
use Rattle.book.proofs.Checks.{AreCompared}
use Rattle.book.proofs.steps.validate.Given as goal

abbrev pub invariant-loop-place : goal.invariant-loop-place
invariant-loop-place g l = AreCompared l.fn.pen l.fn.reader l.reads l.pen l.reader (drop l.place l.reads) l.seen

use Rattle.std.proofs.Common.{◌≡◌, ◌++◌, map, length, Some}
use Rattle.log_text.specs.Bodies.{body_of, bodies_after, start}
use Rattle.log_text.specs.File.{opened}
use Rattle.log_flaws.proofs.examining.bodies_examined.Given as goal

-- what is read, and the rest behind it, is the whole
abbrev pub invariant-bodies : goal.invariant-bodies
invariant-bodies l = (l.fn.bytes ≡ opened (map body_of l.bodies.items) ++ l.rest)
    × (bodies_after l.header start (map body_of l.bodies.items) ≡ Some l.last)

abbrev pub decreases-bodies : goal.decreases-bodies
decreases-bodies l = length l.rest

use Rattle.std.proofs.Common.{map}
use Rattle.recover_found.specs.Found.{bodies_in}
use Rattle.recover_opening.proofs.Greatest.{IsTopSoFar}
use Rattle.recover_opening.proofs.top.top_epoch.Given as goal

abbrev pub invariant-loop-bodies : goal.invariant-loop-bodies
invariant-loop-bodies l = IsTopSoFar (map (λ bodies. bodies_in bodies.items) l.files) l.bodies-index l.top

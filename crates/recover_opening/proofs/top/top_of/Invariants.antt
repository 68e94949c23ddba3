use Rattle.std.proofs.Common.{◌≡◌, take}
use Rattle.recover_found.specs.Found.{bodies_in, last_mark}
use Rattle.recover_opening.specs.Tops.{epoch_from}
use Rattle.recover_opening.proofs.top.top_of.Given as goal

-- what is left goes on from what was found
abbrev pub invariant-loop-body : goal.invariant-loop-body
invariant-loop-body l =
    (l.mark ≡ last_mark 0 (bodies_in (take l.body-index l.bodies))) × (l.epoch ≡ epoch_from 0 (bodies_in (take l.body-index l.bodies)))

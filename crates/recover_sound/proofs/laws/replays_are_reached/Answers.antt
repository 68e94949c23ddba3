use Rattle.std.proofs.Common.{◌+◌, length, subst}
use Rattle.book.specs.Base.{AreReached}
use Rattle.recover_sound.proofs.Beginning.{reached_are_sound}
use Rattle.recover_sound.proofs.laws.replays_are_reached.Goals as goal

pub returns : goal.returns
returns c = λ past t0 t history few reached legal.
    let there : AreReached (past + length history) t
    = subst (AreReached (past + length history)) legal.end
    (c.histories_stay_in_reach.ensures past t0 history few reached legal.replays) in
    (there, reached_are_sound (past + length history) t there)

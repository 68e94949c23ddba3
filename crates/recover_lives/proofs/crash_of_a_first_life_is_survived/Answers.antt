use Rattle.std.proofs.Common.{[], map, sym, subst}
use Rattle.recover_crashes.specs.World.{World, opening}
use Rattle.recover_lives.specs.World.{Origin, Lives, origin_of}
use Rattle.recover_lives.specs.Events.{Within, MayStrike}
use Rattle.recover_lives.specs.Surviving.{LeavesTheReplay}
use Rattle.recover_lives.proofs.Falls.{all_within, after_within}
use Rattle.recover_lives.proofs.crash_of_a_first_life_is_survived.Goals as goal

pub returns : goal.returns
returns c = λ life files events strings begins first happened crash.
    let o : Origin = origin_of life in
    let now : World = opening life.plan files in
    let after = after_within o life [] [] now events in
    subst (λ (w : Lives). LeavesTheReplay o w strings) after
    (c.every_crash_is_survived.ensures life files (map Within events) strings begins first (all_within o life [] [] now events happened)
    (subst (λ (w : Lives). MayStrike o w strings) (sym after) crash))

use Rattle.std.proofs.Common.{[], sym, subst}
use Rattle.recover_crashes.specs.Recovering.{Crashes, Recovers}
use Rattle.recover_crashes.specs.World.{World, opening}
use Rattle.recover_lives.specs.World.{Running, origin_of}
use Rattle.recover_lives.specs.Surviving.{LeavesTheReplay}
use Rattle.traces.proofs.Events.{events_of}
use Rattle.traces.proofs.laws.each_moment_is_recovered.Goals as goal

pub returns : goal.returns
returns c = λ life files t steps n strings first may crash.
    let are = events_of life t (opening life.plan files) steps may n in
    let there = subst (λ (v : World). Crashes life v strings) (sym are.lead) crash in (
      subst (λ (v : World). Recovers life.first life v.history v.released v.durable strings) are.lead
          (c.crash_of_a_first_life_recovers.ensures life files are.events strings first are.happen there),
      λ begins.
          subst (λ (v : World). LeavesTheReplay (origin_of life) (Running life [] [] v) strings) are.lead
          (c.crash_of_a_first_life_is_survived.ensures life files are.events strings begins first are.happen there),
    )

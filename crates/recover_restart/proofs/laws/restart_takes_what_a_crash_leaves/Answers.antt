use Rattle.recover_lives.specs.World.{Origin, Lives, origin_of, first_world}
use Rattle.recover_lives.specs.Events.{lives_after_all}
use Rattle.recover_restart.proofs.Taking.{takes}
use Rattle.recover_restart.proofs.laws.restart_takes_what_a_crash_leaves.Goals as goal

pub returns : goal.returns
returns c = λ life files events strings begins reach today first happened crash.
    let o : Origin = origin_of life in
    let w : Lives = lives_after_all o (first_world life files) events in
    takes o w strings (c.every_crash_is_survived.ensures life files events strings begins first happened crash) today
    c.recovered_commits_are_within_the_cap.ensures c.replays_are_reached.ensures begins reach

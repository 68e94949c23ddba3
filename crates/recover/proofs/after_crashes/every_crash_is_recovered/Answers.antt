use Rattle.recover_lives.specs.World.{Origin, Lives, origin_of, first_world}
use Rattle.recover_lives.specs.Events.{lives_after_all}
use Rattle.recover.proofs.Crashed.{are_files, no_gap_left, is_beginning}
use Rattle.recover.proofs.after_crashes.every_crash_is_recovered.Goals as goal

pub returns-clause-files : goal.returns-clause-files
returns-clause-files c = λ life files events by_logger begins first happened crash strings turn.
    let o : Origin = origin_of life in
    let w : Lives = lives_after_all o (first_world life files) events in
    let leaves = c.every_crash_is_survived.ensures life files events by_logger begins first happened crash in
    (leaves.left, are_files o w by_logger leaves strings turn)

pub returns-clause-no_gap : goal.returns-clause-no_gap
returns-clause-no_gap c = λ life files events by_logger begins first happened crash strings turn gap.
    let o : Origin = origin_of life in
    let w : Lives = lives_after_all o (first_world life files) events in
    no_gap_left o w by_logger (c.every_crash_is_survived.ensures life files events by_logger begins first happened crash) strings turn gap

pub returns-clause-recovered : goal.returns-clause-recovered
returns-clause-recovered c = λ life files events by_logger begins first happened crash strings turn r is.
    let o : Origin = origin_of life in
    let w : Lives = lives_after_all o (first_world life files) events in
    is_beginning o w by_logger (c.every_crash_is_survived.ensures life files events by_logger begins first happened crash) strings turn r is

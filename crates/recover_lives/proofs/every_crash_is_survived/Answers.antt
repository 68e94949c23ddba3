use Rattle.recover_lives.specs.World.{Origin, Lives, origin_of, first_world}
use Rattle.recover_lives.specs.Events.{lives_after_all}
use Rattle.recover_lives.proofs.Worlds.{strikes, holds_after_all, first_holds}
use Rattle.recover_lives.proofs.Replayed.{gives_the_replay}
use Rattle.recover_lives.proofs.every_crash_is_survived.Goals as goal

pub returns : goal.returns
returns c = λ life files events strings begins first happened crash.
    let o : Origin = origin_of life in
    let w : Lives = lives_after_all o (first_world life files) events in
    gives_the_replay o begins c.rebuilt_tables_are_the_replay.ensures w strings
    (strikes o w (holds_after_all o begins c.rebuilt_tables_are_the_replay.ensures (first_world life files) events (first_holds life files first) happened)
    strings crash)

use Rattle.recover_lives.specs.World.{Origin, Lives, origin_of, first_world}
use Rattle.recover_lives.specs.Events.{lives_after_all}
use Rattle.recover_lives.proofs.Worlds.{holds_after_all, first_holds}
use Rattle.recover_lives.proofs.Replayed.{is_lawful}
use Rattle.recover_lives.proofs.durable_epoch_stays_lawful.Goals as goal

pub returns : goal.returns
returns c = λ life files events strings begins first happened crash.
    let o : Origin = origin_of life in
    let w : Lives = lives_after_all o (first_world life files) events in
    is_lawful o w
    (holds_after_all o begins c.rebuilt_tables_are_the_replay.ensures (first_world life files) events (first_holds life files first) happened)
    strings crash

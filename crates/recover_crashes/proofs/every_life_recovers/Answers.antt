use Rattle.recover_crashes.specs.World.{opening}
use Rattle.recover_crashes.specs.Events.{world_after_all}
use Rattle.recover_crashes.proofs.Opened.{opens}
use Rattle.recover_crashes.proofs.Sound.{all_events}
use Rattle.recover_crashes.proofs.Crashed.{recovers}
use Rattle.recover_crashes.proofs.every_life_recovers.Goals as goal

pub returns : goal.returns
returns c = λ t0 life old past earlier files events strings base opened happened crash.
    recovers t0 life old past earlier base (world_after_all (opening life.plan files) events)
    (all_events life old (opening life.plan files) events (opens life old files opened base.marks base.room) happened) strings crash

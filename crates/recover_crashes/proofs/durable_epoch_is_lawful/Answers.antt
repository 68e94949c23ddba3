use Rattle.recover_crashes.specs.World.{opening}
use Rattle.recover_crashes.specs.Events.{world_after_all}
use Rattle.recover_crashes.proofs.Opened.{opens}
use Rattle.recover_crashes.proofs.Sound.{all_events}
use Rattle.recover_crashes.proofs.Crashed.{is_lawful}
use Rattle.recover_crashes.proofs.durable_epoch_is_lawful.Goals as goal

pub returns : goal.returns
returns c = λ t0 life old past earlier files events base opened happened.
    is_lawful t0 life old past earlier base (world_after_all (opening life.plan files) events)
    (all_events life old (opening life.plan files) events (opens life old files opened base.marks base.room) happened)

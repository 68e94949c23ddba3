use Rattle.recover_crashes.proofs.Crashed.{recovers}
use Rattle.recover_moments.specs.Moments.{world_at}
use Rattle.recover_moments.proofs.Worlds.{sound}
use Rattle.recover_moments.proofs.every_moment_recovers.Goals as goal

pub returns : goal.returns
returns c = λ t0 life old past earlier m strings base is may.
    recovers t0 life old past earlier base (world_at life m) (sound life old m is) strings may

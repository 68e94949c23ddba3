use Rattle.recover_opening.proofs.Syncing.{IsSyncedSoFar}
use Rattle.recover_opening.proofs.opening.sync_all.Given as goal

abbrev pub invariant-loop-n : goal.invariant-loop-n
invariant-loop-n g l = IsSyncedSoFar g.D.Disk.is_modelled g.D.Disk.seen g.D.Disk.story g.D.Disk.failed l.fn.disks l.n l.disks

use Rattle.std.proofs.Common.{◌≡◌, ◌-◌}
use Rattle.log_disk.specs.Calls.{OnlyReads}
use Rattle.log_scan.proofs.reading.text_end.Given as goal

-- no call has failed, and the disk was only read
abbrev pub invariant-loop-gate : goal.invariant-loop-gate
invariant-loop-gate g l =
    (g.D.Disk.failed l.disk ≡ g.D.Disk.failed l.fn.disk)
    × OnlyReads g.D.Disk.is_modelled g.D.Disk.seen g.D.Disk.story l.fn.disk l.disk

abbrev pub decreases-loop-gate : goal.decreases-loop-gate
decreases-loop-gate g l = l.size - l.gate

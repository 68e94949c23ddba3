use Rattle.std.proofs.Common.{◌≡◌, ◌-◌, ◌⊎◌, ◌≤◌, ◌++◌, ℕ, List, length, take}
use Rattle.log_disk.specs.Calls.{OnlyReads}
use Rattle.log_scan.specs.Walk.{IsWalked}
use Rattle.log_scan.specs.declared.reading.TheConstants.{HEADER_BYTES}
use Rattle.log_scan.proofs.reading.read_text.Given as goal

-- with whatever more was read, one comes to this gate; no call has failed, and the disk was only read
abbrev pub invariant-loop-bytes : goal.invariant-loop-bytes
invariant-loop-bytes g l =
    (length l.bytes.items ≤ l.size)
    × ((more : List ℕ) → l.gate ≤ length (l.bytes.items ++ more) → IsWalked (l.bytes.items ++ more) l.gate)
    × ((l.gate ≡ HEADER_BYTES) ⊎ (l.gate ≤ l.size))
    × (g.D.Disk.is_modelled → l.bytes.items ≡ take (length l.bytes.items) (g.D.Disk.seen l.fn.disk))
    × (g.D.Disk.failed l.disk ≡ g.D.Disk.failed l.fn.disk)
    × OnlyReads g.D.Disk.is_modelled g.D.Disk.seen g.D.Disk.story l.fn.disk l.disk

abbrev pub decreases-loop-bytes : goal.decreases-loop-bytes
decreases-loop-bytes g l = l.size - l.gate

use Rattle.std.proofs.Common.{◌≡◌, ◌-◌, ◌≤◌, ◌++◌, ℕ, List, length, take}
use Rattle.log_disk.specs.Calls.{OnlyReads}
use Rattle.log_scan.proofs.reading.read_to.Given as goal

-- more bytes were read, no call has failed, and the disk was only read
abbrev pub invariant-loop-bytes : goal.invariant-loop-bytes
invariant-loop-bytes g l =
    ((more : List ℕ) × (l.bytes.items ≡ l.fn.bytes.items ++ more))
    × ((most : ℕ) → length l.fn.bytes.items ≤ most → l.end ≤ most → length l.bytes.items ≤ most)
    × (g.D.Disk.is_modelled → l.fn.bytes.items ≡ take (length l.fn.bytes.items) (g.D.Disk.seen l.fn.disk)
    → l.bytes.items ≡ take (length l.bytes.items) (g.D.Disk.seen l.fn.disk))
    × (g.D.Disk.failed l.disk ≡ g.D.Disk.failed l.fn.disk)
    × OnlyReads g.D.Disk.is_modelled g.D.Disk.seen g.D.Disk.story l.fn.disk l.disk

abbrev pub decreases-loop-bytes : goal.decreases-loop-bytes
decreases-loop-bytes g l = l.end - length l.bytes.items

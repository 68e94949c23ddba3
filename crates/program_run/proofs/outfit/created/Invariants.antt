use Rattle.std.proofs.Common.{◌≡◌, ◌+◌, [], All, length, map}
use Rattle.std.specs.Vec.Iter.{into_iter_items, into_iter_len}
use Rattle.program_run.proofs.Seats.{AreFirstLogs}
use Rattle.program_run.proofs.outfit.created.Given as goal

-- each slot so far has a log file, of its logger, and the disks that are left are empty
abbrev pub invariant-loop-slot : goal.invariant-loop-slot
invariant-loop-slot g l =
    (into_iter_len l.slot-iterator ≡ length (into_iter_items l.slot-iterator))
    × (length l.logs.items + length (into_iter_items l.slot-iterator) ≡ l.loggers)
    × (l.loggers ≡ length l.fn.slots.items)
    × AreFirstLogs (length l.logs.items) l.loggers 0 (map (λ log. log.inner) l.logs.items)
    × (g.D.Disk.is_modelled → All (λ slot. g.D.Disk.seen slot.inner ≡ []) (into_iter_items l.slot-iterator))

use Rattle.std.proofs.Common.{◌≡◌, All, [], length}
use Rattle.log_disk.specs.Memory.{replayed_calls}
use Rattle.bench_run.proofs.memories.Given as goal

-- each logger so far has a slot, whose disk is empty
abbrev pub invariant-loop-logger : goal.invariant-loop-logger
invariant-loop-logger g l =
    (length l.slots.items ≡ l.logger)
    × All (λ slot. (replayed_calls slot.inner.calls).bytes ≡ []) l.slots.items

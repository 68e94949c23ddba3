use Rattle.std.proofs.Common.{◌≡◌, ◌<◌, ◌^◌, ℕ, take}
use Rattle.std.specs.Prelude.{sum_by}
use Rattle.recover_progress.proofs.counting.Progress.in_all.Given as goal

-- so far it is the sum of the sizes that were added, where all of them together are below 2^64
abbrev pub invariant-loop-size : goal.invariant-loop-size
invariant-loop-size l =
    sum_by (λ (size : ℕ). size) l.size-items < 2 ^ 64
    → l.all ≡ sum_by (λ (size : ℕ). size) (take l.size-index l.size-items)

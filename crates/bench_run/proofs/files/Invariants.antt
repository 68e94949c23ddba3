use Rattle.std.proofs.Common.{◌≡◌, length}
use Rattle.bench_run.proofs.files.Given as goal

-- each logger so far has a slot
abbrev pub invariant-loop-logger : goal.invariant-loop-logger
invariant-loop-logger g l = length l.slots.items ≡ l.logger

use Rattle.std.proofs.Common.{◌≡◌, replicate}
use Rattle.commit.specs.Machine.{idle_worker}
use Rattle.commit.proofs.state.State.new.Given as goal

abbrev pub invariant-loop-worker : goal.invariant-loop-worker
invariant-loop-worker l = l.idle.items ≡ replicate l._worker idle_worker

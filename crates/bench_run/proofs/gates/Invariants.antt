use Rattle.std.proofs.Common.{◌≡◌, length}
use Rattle.bench_run.proofs.gates.Given as goal

-- each terminal so far has a gate
abbrev pub invariant-loop : goal.invariant-loop
invariant-loop l = length l.gates.items ≡ l.counter

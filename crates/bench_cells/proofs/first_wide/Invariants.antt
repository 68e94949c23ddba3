use Rattle.std.proofs.Common.{◌≡◌, length}
use Rattle.bench_cells.proofs.first_wide.Given as goal

abbrev pub invariant-loop : goal.invariant-loop
invariant-loop g l = length l.first ≡ l.counter

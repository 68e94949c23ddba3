use Rattle.std.proofs.Common.{◌≡◌, length}
use Rattle.program_live.proofs.live.gates.Given as goal

-- each terminal so far has a gate
abbrev pub invariant-loop : goal.invariant-loop
invariant-loop g l = length l.gates.items ≡ l.counter

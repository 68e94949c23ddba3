use Rattle.std.proofs.Common.{◌≡◌, ◌+◌, length, vec_capacity}
use Rattle.run_threads.proofs.ending.last_turns.Given as goal

-- each logger so far has taken its turn, and the room is as before
abbrev pub invariant-loop-writer : goal.invariant-loop-writer
invariant-loop-writer g l = record {
  turned : length l.turned.items ≡ length l.fn.turned.items + length l.yielded;
  room : vec_capacity l.turned ≡ vec_capacity l.fn.turned;
}

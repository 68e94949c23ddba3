use Rattle.std.proofs.Common.{◌≡◌, ◌+◌, length, vec_capacity}
use Rattle.run_threads.proofs.ending.end_turns.Given as goal

-- each logger so far has given its file and its pace, and the room is as before
abbrev pub invariant-loop-logger : goal.invariant-loop-logger
invariant-loop-logger g l = record {
  files : length l.files.items ≡ length l.fn.files.items + length l.yielded;
  room : vec_capacity l.files ≡ vec_capacity l.fn.files;
  paces : length l.paces.items ≡ length l.fn.paces.items + length l.yielded;
  paces_room : vec_capacity l.paces ≡ vec_capacity l.fn.paces;
}

use Rattle.std.proofs.Common.{◌≡◌, length}
use Rattle.program_live.proofs.live.slots.Given as goal

-- each disk so far has a slot
abbrev pub invariant-loop-disk : goal.invariant-loop-disk
invariant-loop-disk g l = length l.slots.items ≡ length l.yielded

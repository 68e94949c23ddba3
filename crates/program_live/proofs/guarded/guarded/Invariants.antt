use Rattle.std.proofs.Common.{◌≡◌, length}
use Rattle.program_live.proofs.guarded.guarded.Given as goal

-- each disk so far has its alarm
abbrev pub invariant-loop-disk : goal.invariant-loop-disk
invariant-loop-disk l = length l.guarded.items ≡ l.disk-index

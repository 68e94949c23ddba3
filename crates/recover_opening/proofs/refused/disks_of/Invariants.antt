use Rattle.std.proofs.Common.{◌≡◌, map, vec_capacity}
use Rattle.recover_opening.proofs.refused.disks_of.Given as goal

-- the disks of the files so far, and the room as before
abbrev pub invariant-loop-file : goal.invariant-loop-file
invariant-loop-file g l = record {
  disks : l.disks.items ≡ map (λ file. file.disk) l.yielded;
  room : vec_capacity l.disks ≡ vec_capacity l.fn.room;
}

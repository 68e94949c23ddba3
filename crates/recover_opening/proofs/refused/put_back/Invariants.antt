use Rattle.std.proofs.Common.{◌≡◌, ◌++◌, ◌∷◌, length, map, vec_capacity}
use Rattle.std.specs.Vec.Iter.{into_iter_items, into_iter_len}
use Rattle.recover_opening.proofs.refused.put_back.Given as goal

-- what was put back, and what is to come, is all; and the room as before
abbrev pub invariant-loop-disk : goal.invariant-loop-disk
invariant-loop-disk g l = record {
  all : l.disks.items ++ into_iter_items l.disk-iterator ≡ map (λ file. file.disk) l.fn.files.items ++ l.fn.disk ∷ into_iter_items l.fn.rest;
  left : into_iter_len l.disk-iterator ≡ length (into_iter_items l.disk-iterator);
  room : vec_capacity l.disks ≡ vec_capacity l.fn.room;
}

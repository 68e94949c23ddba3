use Rattle.std.proofs.Common.{◌≡◌, ◌≤◌, [], length, vec_capacity}
use Rattle.std.specs.Vec.Iter.{into_iter_items, into_iter_len}
use Rattle.population.specs.Initial.{initial, seed_of}
use Rattle.recover_opening.proofs.Reopening.{IsOpenSoFar}
use Rattle.recover_opening.proofs.opening.open_into.Given as goal

-- files were opened on the disks so far, and there is room for all
abbrev pub invariant-loop-disk : goal.invariant-loop-disk
invariant-loop-disk g l = record {
  left : into_iter_len l.rest ≡ length (into_iter_items l.rest);
  opened : IsOpenSoFar g.D.Disk.is_modelled g.D.Disk.seen g.D.Disk.story g.D.Disk.failed (initial l.population).scale (seed_of l.population)
      l.loggers l.fn.disks.items (into_iter_items l.rest) l.files.items l.all.items;
  none : l.room.items ≡ [];
  room : length l.fn.disks.items ≤ vec_capacity l.room;
  room_for_files : length l.fn.disks.items ≤ vec_capacity l.files;
  room_for_bodies : length l.fn.disks.items ≤ vec_capacity l.all;
}

abbrev pub decreases-loop-disk : goal.decreases-loop-disk
decreases-loop-disk g l = into_iter_len l.rest

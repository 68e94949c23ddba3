use Rattle.std.proofs.Common.{◌≡◌, ℕ, true, length}
use Rattle.std.specs.List.{All, fold}
use Rattle.std.specs.Vec.Iter.{into_iter_items}
use Rattle.recover_newest.specs.Known.{known}
use Rattle.log_text.specs.Writes.{is_write}
use Rattle.recover_files.specs.Parts.{raised_by}
use Rattle.recover_files.proofs.part.raise_all.Given as goal

-- what is left makes of each record what all writes make of the first
abbrev pub invariant-loop-write : goal.invariant-loop-write
invariant-loop-write l = record {
  records : length l.newest.places ≡ length l.fn.newest.places;
  lawful : All (λ w. is_write l.scale w ≡ true) (into_iter_items l.write-iterator);
  raised : (n : ℕ) → fold (raised_by l.scale l.fn.entry.tid l.fn.entry.number n) (known l.newest n) (into_iter_items l.write-iterator)
      ≡ fold (raised_by l.scale l.fn.entry.tid l.fn.entry.number n) (known l.fn.newest n) l.fn.entry.writes.items;
}

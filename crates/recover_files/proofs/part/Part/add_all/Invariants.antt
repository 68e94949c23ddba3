use Rattle.std.specs.Vec.Iter.{into_iter_items}
use Rattle.std.proofs.Common.{◌≡◌, ◌++◌, List, length, map}
use Rattle.std.specs.Prelude.{filter}
use Rattle.log_text.specs.Entries.{EntryView, logged}
use Rattle.recover_found.specs.Found.{counts_by}
use Rattle.recover_files.specs.Parts.{IsPart, HaveLawfulWrites}
use Rattle.recover_files.proofs.part.Part.add_all.Given as goal

-- some entries were looked at, which with those that are left and count are all that count
abbrev pub invariant-loop-entry : goal.invariant-loop-entry
invariant-loop-entry l = record {
  part : (done : List EntryView) × ((es : List EntryView) → IsPart l.scale es l.fn.self → IsPart l.scale (es ++ done) l.self)
      × (done ++ filter (λ e. counts_by l.keeps (Rattle.tidword.specs.TidWord.epoch_of e.tid)) (map logged (into_iter_items l.entry-iterator))
      ≡ filter (λ e. counts_by l.keeps (Rattle.tidword.specs.TidWord.epoch_of e.tid)) (map logged l.fn.entries.items));
  records : length l.self.newest.places ≡ length l.fn.self.newest.places;
  lawful : HaveLawfulWrites l.scale (map logged (into_iter_items l.entry-iterator));
}

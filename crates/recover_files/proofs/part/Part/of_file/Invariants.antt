use Rattle.std.specs.Vec.Iter.{into_iter_items}
use Rattle.std.proofs.Common.{◌≡◌, ◌++◌, List, map}
use Rattle.log_text.specs.Bodies.{body_of}
use Rattle.log_text.specs.Entries.{EntryView}
use Rattle.recover_found.specs.Found.{counts_by, counted, entries_of}
use Rattle.recover_files.specs.Parts.{IsPart, HaveLawfulWrites}
use Rattle.recover_files.proofs.part.Part.of_file.Given as goal

-- the part is of some entries, which with those that are left and count are all that count
abbrev pub invariant-loop-body : goal.invariant-loop-body
invariant-loop-body l = record {
  part : (done : List EntryView) × IsPart l.scale done l.part
      × (done ++ counted (counts_by l.keeps) (map body_of (into_iter_items l.body-iterator)) ≡ counted (counts_by l.keeps) (map body_of l.fn.bodies.items));
  lawful : HaveLawfulWrites l.scale (entries_of (map body_of (into_iter_items l.body-iterator)));
}

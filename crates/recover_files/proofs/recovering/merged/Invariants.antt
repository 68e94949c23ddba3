use Rattle.std.specs.Vec.Iter.{into_iter_items}
use Rattle.std.proofs.Common.{◌≡◌, ◌++◌, List, map}
use Rattle.std.specs.Prelude.{flat_map}
use Rattle.std.specs.List.{All}
use Rattle.log_text.specs.Entries.{EntryView}
use Rattle.recover_found.specs.Found.{bodies_in, counted, counts_by, entries_of}
use Rattle.recover_files.specs.Parts.{IsPart, HaveLawfulWrites}
use Rattle.recover_files.proofs.recovering.merged.Given as goal

-- the part is of some entries, which with those of the files that are left are those of all files
abbrev pub invariant-loop-bodies : goal.invariant-loop-bodies
invariant-loop-bodies l = record {
  part : (done : List EntryView) × IsPart l.scale done l.all
      × (done ++ flat_map (counted (counts_by l.keeps)) (map (λ bodies. bodies_in bodies.items) (into_iter_items l.bodies-iterator))
      ≡ flat_map (counted (counts_by l.keeps)) (map (λ bodies. bodies_in bodies.items) l.fn.files.items));
  lawful : All (λ bodies. HaveLawfulWrites l.scale (entries_of bodies)) (map (λ bodies. bodies_in bodies.items) (into_iter_items l.bodies-iterator));
}

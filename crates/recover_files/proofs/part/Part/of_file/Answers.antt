use Rattle.std.proofs.Common.{◌≡◌, true, List, ◌++◌, map, subst}
use Rattle.std.specs.Vec.Iter.{into_iter_items}
use Rattle.std.proofs.lemmas.List.Concat.{flat_map-cons}
use Rattle.log_text.specs.Bodies.{BodyView, body_of, entries_in}
use Rattle.log_text.specs.Entries.{EntryView}
use Rattle.log_text.specs.Writes.{are_writes}
use Rattle.log_text.specs.declared.body.Body.{Body}
use Rattle.recover_found.specs.Found.{counts_by, counted, entries_of}
use Rattle.recover_files.specs.Parts.{HaveLawfulWrites}
use Rattle.recover_files.proofs.Looking.{next_passed, all_left, all_right}
use Rattle.recover_files.proofs.part.Part.of_file.Goals as goal

pub loop-body-preserved : goal.loop-body-preserved
loop-body-preserved c =
    let s = c.args.scale.now in
    let rest : List BodyView = map body_of (into_iter_items c.next.new.self) in
    let b : BodyView = body_of c.in-Some.body in
    let all : List EntryView = counted (counts_by c.args.keeps.now) (map body_of c.args.bodies.items) in
    let p = λ (e : EntryView). counts_by c.args.keeps.now (Rattle.tidword.specs.TidWord.epoch_of e.tid) in
    let part = c.loop-body.invariant.part in
    let looked = subst (λ (bs : List Body). part.0 ++ counted (counts_by c.args.keeps.now) (map body_of bs) ≡ all) c.in-Some.ensures.steps.0 part.2 in
    let lawful = subst (λ (bs : List Body). HaveLawfulWrites s (entries_of (map body_of bs))) c.in-Some.ensures.steps.0 c.loop-body.invariant.lawful in
    record {
      part = (_, c.in_ok-add_body.ensures.part part.0 part.1, next_passed p entries_in part.0 b rest all looked);
      lawful = all_right (λ (e : EntryView). are_writes s e.writes ≡ true) (entries_in b) (entries_of rest)
          (subst (HaveLawfulWrites s) (flat_map-cons entries_in b rest) lawful);
    }

pub add_body-requires-clause-lawful : goal.add_body-requires-clause-lawful
add_body-requires-clause-lawful c =
    let s = c.args.scale.now in
    let rest : List BodyView = map body_of (into_iter_items c.next.new.self) in
    let b : BodyView = body_of c.in-Some.body in
    let lawful = subst (λ (bs : List Body). HaveLawfulWrites s (entries_of (map body_of bs))) c.in-Some.ensures.steps.0 c.loop-body.invariant.lawful in
    all_left (λ (e : EntryView). are_writes s e.writes ≡ true) (entries_in b) (entries_of rest) (subst (HaveLawfulWrites s) (flat_map-cons entries_in b rest) lawful)

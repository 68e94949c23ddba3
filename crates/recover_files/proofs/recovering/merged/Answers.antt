use Rattle.std.proofs.Common.{◌≡◌, List, Vec, Global, ◌++◌, map, subst}
use Rattle.std.specs.List.{All, flat_map}
use Rattle.std.specs.Vec.Iter.{into_iter_items}
use Rattle.std.proofs.lemmas.List.Elements.{All-head, All-tail}
use Rattle.log_text.specs.Bodies.{BodyView}
use Rattle.log_text.specs.Entries.{EntryView}
use Rattle.log_text.specs.declared.body.Body.{Body}
use Rattle.recover_found.specs.Found.{bodies_in, counted, counts_by, entries_of}
use Rattle.recover_files.specs.Parts.{HaveLawfulWrites}
use Rattle.recover_files.proofs.Looking.{next_of}
use Rattle.recover_files.proofs.recovering.merged.Goals as goal

pub loop-bodies-preserved : goal.loop-bodies-preserved
loop-bodies-preserved c =
    let s = c.args.scale.now in
    let file = λ (v : Vec Body Global). bodies_in v.items in
    let rest : List (List BodyView) = map file (into_iter_items c.next.new.self) in
    let b : List BodyView = file c.in-Some.bodies in
    let all : List EntryView = flat_map (counted (counts_by c.args.keeps.now)) (map file c.args.files.items) in
    let part = c.loop-bodies.invariant.part in
    let looked = subst (λ (vs : List (Vec Body Global)). part.0 ++ flat_map (counted (counts_by c.args.keeps.now)) (map file vs) ≡ all) c.in-Some.ensures.steps.0 part.2 in
    let lawful = subst (λ (vs : List (Vec Body Global)). All (λ bodies. HaveLawfulWrites s (entries_of bodies)) (map file vs)) c.in-Some.ensures.steps.0 c.loop-bodies.invariant.lawful in
    record {
      part = (
        _,
        c.in_ok-merge.ensures.part s part.0 (counted (counts_by c.args.keeps.now) b) part.1 c.in_ok-part.ensures,
        next_of (counted (counts_by c.args.keeps.now)) part.0 b rest all looked,
      );
      lawful = All-tail (λ (bodies : List BodyView). HaveLawfulWrites s (entries_of bodies)) b rest lawful;
    }

pub of_file-requires-clause-lawful : goal.of_file-requires-clause-lawful
of_file-requires-clause-lawful c =
    let s = c.args.scale.now in
    let file = λ (v : Vec Body Global). bodies_in v.items in
    let lawful = subst (λ (vs : List (Vec Body Global)). All (λ bodies. HaveLawfulWrites s (entries_of bodies)) (map file vs)) c.in-Some.ensures.steps.0 c.loop-bodies.invariant.lawful in
    All-head (λ (bodies : List BodyView). HaveLawfulWrites s (entries_of bodies)) (file c.in-Some.bodies) (map file (into_iter_items c.next.new.self)) lawful

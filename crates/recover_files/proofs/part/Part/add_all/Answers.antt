use Rattle.std.proofs.Common.{◌≡◌, true, List, [], ◌∷◌, ◌++◌, length, map, sym, ap, ◌∙◌, subst}
use Rattle.std.specs.Prelude.{filter}
use Rattle.std.specs.Vec.Iter.{into_iter_items}
use Rattle.std.proofs.lemmas.List.{append_assoc}
use Rattle.std.proofs.lemmas.List.Elements.{All-head, All-tail, filter-append}
use Rattle.log_text.specs.Entries.{EntryView, logged}
use Rattle.log_text.specs.Writes.{are_writes}
use Rattle.log_text.specs.declared.entry.LoggedEntry.{LoggedEntry}
use Rattle.recover_found.specs.Found.{counts_by}
use Rattle.recover_files.specs.Parts.{IsPart, HaveLawfulWrites}
use Rattle.recover_files.proofs.part.Part.add_all.Goals as goal

pub look_at-requires-clause-lawful : goal.look_at-requires-clause-lawful
look_at-requires-clause-lawful c =
    All-head (λ (e : EntryView). are_writes c.args.scale.now e.writes ≡ true) (logged c.in-Some.entry) (map logged (into_iter_items c.next.new.self))
    (subst (λ (es : List LoggedEntry). HaveLawfulWrites c.args.scale.now (map logged es)) c.in-Some.ensures.steps.0 c.loop-entry.invariant.lawful)

pub loop-entry-preserved : goal.loop-entry-preserved
loop-entry-preserved c =
    let s = c.args.scale.now in
    let rest : List EntryView = map logged (into_iter_items c.next.new.self) in
    let e : EntryView = logged c.in-Some.entry in
    let p = λ (d : EntryView). counts_by c.args.keeps.now (Rattle.tidword.specs.TidWord.epoch_of d.tid) in
    let all = filter p (map logged c.args.entries.items) in
    let whole = c.loop-entry.invariant in
    let done = whole.part.0 in
    let looked = subst (λ (es : List LoggedEntry). done ++ filter p (map logged es) ≡ all) c.in-Some.ensures.steps.0 whole.part.2 in
    let own = c.in_ok-look_at.ensures in
    record {
      part = (
        done ++ filter p (e ∷ []),
        (λ es is. subst (λ (l : List EntryView). IsPart s l c.look_at.new.self) (append_assoc es done (filter p (e ∷ []))) (own.part (es ++ done) (whole.part.1 es is))),
        append_assoc done (filter p (e ∷ [])) (filter p rest) ∙ ap (λ (l : List EntryView). done ++ l) (sym (filter-append p (e ∷ []) rest)) ∙ looked,
      );
      records = own.records ∙ whole.records;
      lawful = All-tail (λ (d : EntryView). are_writes s d.writes ≡ true) e rest
          (subst (λ (es : List LoggedEntry). HaveLawfulWrites s (map logged es)) c.in-Some.ensures.steps.0 whole.lawful);
    }

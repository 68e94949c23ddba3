use Rattle.std.proofs.Common.{◌++◌, ◌∷◌, [], List, Option, sym, ap, ◌∙◌, subst}
use Rattle.std.proofs.lemmas.List.{map-append}
use Rattle.recover_newest.specs.Known.{known}
use Rattle.recover_newest.specs.declared.latest.Latest.{Latest}
use Rattle.log_text.specs.Entries.{EntryView, logged}
use Rattle.recover_files.specs.Parts.{IsKnown, row_added, commit_of}
use Rattle.recover_files.specs.declared.numbering.Commit.{Commit}
use Rattle.recover_files.proofs.Knowing.{known_more}
use Rattle.recover_files.proofs.part.Part.add.Goals as goal

pub returns-clause-part : goal.returns-clause-part
returns-clause-part c = λ es part.
    let s = c.args.scale.now in
    let e : EntryView = logged c.args.entry in
    record {
      records = c.in_ok-raise_all.ensures.records ∙ part.records;
      known = λ n.
          subst (λ (o : Option Latest). IsKnown s (es ++ e ∷ []) n o) (sym (c.in_ok-raise_all.ensures.raised n))
          (known_more s n e es (known c.args.self.now.newest n) (part.known n));
      commits = ◌∙◌ {A = List Commit} c.in_ok-push.ensures.items (◌∙◌ {A = List Commit} (λ i. part.commits i ++ record { number = e.number; row = (c.added_row.ensures ∙ ap row_added c.deref.ensures.value) i } ∷ []) (sym (map-append commit_of es (e ∷ []))));
    }

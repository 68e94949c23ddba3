use Rattle.std.proofs.Common.{◌++◌, List, sym, subst}
use Rattle.std.specs.Prelude.{filter, OnOk}
use Rattle.tidword.specs.TidWord.{epoch_of}
use Rattle.log_text.specs.Bodies.{body_of, entries_in}
use Rattle.log_text.specs.Entries.{EntryView}
use Rattle.log_text.specs.declared.body.Body.{Body}
use Rattle.recover_found.specs.Found.{counts_by}
use Rattle.recover_files.specs.Parts.{IsPart}
use Rattle.recover_files.proofs.part.Part.add_body.Goals as goal

pub returns-in-Entries-clause-part : goal.returns-in-Entries-clause-part
returns-in-Entries-clause-part c =
    subst (λ (body : Body). OnOk c.add_all.result ((es : List EntryView) → IsPart c.args.scale.now es c.args.self.now
    → IsPart c.args.scale.now (es ++ filter (λ (e : EntryView). counts_by c.args.keeps.now (epoch_of e.tid)) (entries_in (body_of body)))
    c.add_all.new.self))
    (sym c.in-Entries.is) c.add_all.ensures.part

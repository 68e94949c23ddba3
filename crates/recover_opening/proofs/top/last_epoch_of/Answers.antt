use Rattle.std.proofs.Common.{◌-◌, List, length, map, sym, ap, ◌∙◌, arith}
use Rattle.tidword.specs.TidWord.{epoch_of}
use Rattle.log_text.specs.Bodies.{body_of, entries_in}
use Rattle.log_text.specs.Entries.{logged}
use Rattle.log_text.specs.declared.body.Body.{Body}
use Rattle.log_text.specs.declared.entry.LoggedEntry.{LoggedEntry}
use Rattle.recover_opening.specs.Tops.{epoch_behind}
use Rattle.recover_opening.proofs.BodyByBody.{epoch_of_last}
use Rattle.recover_opening.proofs.top.last_epoch_of.Goals as goal

pub returns-in-Some : goal.returns-in-Some
returns-in-Some c =
    let last = c.in-Some.ensures.item.3 in
    let entries = c.deref.result.now in
    let entry = c.in-Some.entry.now in
    ap (λ (e : LoggedEntry). epoch_of e.tid) (last.1 entry)
    ∙ epoch_of_last c.args.before entries (length entries - 1) entry (omega (arith, last.0))
    ∙ ap (λ (es : List LoggedEntry). epoch_behind c.args.before (map logged es)) c.deref.ensures.value
    ∙ ap (λ (b : Body). epoch_behind c.args.before (entries_in (body_of b))) (sym c.in-Entries.is)

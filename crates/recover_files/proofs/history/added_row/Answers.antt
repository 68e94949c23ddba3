use Rattle.std.proofs.Common.{sym, ap, ◌∙◌}
use Rattle.std.specs.Prelude.{Some}
use Rattle.log_text.specs.declared.write.Write.{Write}
use Rattle.recover_files.proofs.HistoryRows.{first_row}
use Rattle.recover_files.proofs.HistoryWords.{history_row}
use Rattle.recover_files.proofs.history.added_row.Goals as goal

pub history_of-requires : goal.history_of-requires
history_of-requires c =
    let here = c.in-History-Columns in
    let at = sym c.write-item.is in (
      c.requires.0,
      c.requires.1,
      history_row c.requires.0 c.args.writes.now c.loop-write.write-index c.write-item.result here.words c.requires.2
          c.loop-write-test.true (ap (λ (w : Write). w.table) at ∙ here.is-0) (ap (λ (w : Write). w.value) at ∙ here.is-1),
    )

pub returns-in-History-Columns : goal.returns-in-History-Columns
returns-in-History-Columns c =
    let here = c.in-History-Columns in
    let at = sym c.write-item.is in
    ap Some c.history_of.ensures
    ∙ sym (first_row c.args.writes.now c.loop-write.write-index c.write-item.result here.words c.loop-write-test.true c.loop-write.invariant
    (ap (λ (w : Write). w.table) at ∙ here.is-0) (ap (λ (w : Write). w.value) at ∙ here.is-1))

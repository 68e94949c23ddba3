use Rattle.std.proofs.Common.{◌≡◌, ℕ, ◌++◌, List, OnOk, Option, Some, None, Bool, sym, ap, ◌∙◌, subst}
use Rattle.tables.specs.Records.{table_at}
use Rattle.log_text.specs.Columns.{has_text}
use Rattle.log_text.specs.Writes.{write_text}
use Rattle.log_text.specs.declared.write.Write.{Write}
use Rattle.log_text.specs.declared.write.Value.{Value}
use Rattle.log_entries.specs.Logged.{value_as, write_at}
use Rattle.log_entries.proofs.Turns.{narrow_holds_none}
use Rattle.log_entries.proofs.writing.put_value.Goals.{in-Some, in-None}
use Rattle.log_entries.proofs.writing.put_value.Goals as goal

pub returns : goal.returns
returns c =
    let s = c.args.scale.now in
    let n = c.args.number in
    let none = narrow_holds_none s n c.requires in
    let held : c.match-words.value ≡ value_as (has_text (table_at s n)) c.args.words =
    elim c.match-words.branch [
      | in-Some w ↦ w.value-is ∙ ap (λ (b : Bool). value_as b (Some w.in-Some.words)) (sym none)
          ∙ ap (value_as (has_text (table_at s n))) (sym w.in-Some.is)
      | in-None w ↦ w.value-is ∙ ap (value_as (has_text (table_at s n))) (sym w.in-None.is)
    ] in
    let same : record { table = c.locate-table.result.0; place = c.locate-table.result.1; value = c.match-words.value } ≡ write_at s (n, c.args.words) =
    λ i. record { table = c.locate-table.ensures.table i; place = c.locate-table.ensures.place i; value = held i } in
    subst (λ (w : Write). OnOk c.put_write.result (c.put_write.new.out.items ≡ c.args.out.now.items ++ write_text w)) same c.put_write.ensures

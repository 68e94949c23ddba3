use Rattle.std.proofs.Common.{◌≡◌, ◌∙◌, List, ℕ, subst}
use Rattle.std.specs.Prelude.{IfOk, string_bytes}
use Rattle.log_header.specs.Header.{HeaderView}
use Rattle.program.specs.Info.{info_text, lines_text, tables_text}
use Rattle.program.proofs.info.text_of.Goals as goal

pub returns : goal.returns
returns c =
    let h = c.header.inside in
    let tables : c.as_str.result.now ≡ tables_text h.scale h.seed = c.as_str.ensures.value ∙ c.in_ok-tables.ensures in
    subst (λ (view : HeaderView). IfOk c.lines_of.result (λ text. string_bytes text ≡ info_text view)) c.header.view_is
    (subst (λ (t : List ℕ). IfOk c.lines_of.result (λ text. string_bytes text ≡ lines_text h.version h.loggers t)) tables c.lines_of.ensures)

use Rattle.std.proofs.Common.{◌≡◌, length, [], sym, ◌∙◌, subst, rules}
use Rattle.std.specs.Prelude.{string_bytes}
use Rattle.std.specs.Io.KnownBytes.{Appends}
use Rattle.std.proofs.KnownBytes.{Appends-nil}
use Rattle.program_script.specs.Answered.{standing_of}
use Rattle.program_script.proofs.Progress.{on_err, begun_all, begun_report, report_of, whole}
use Rattle.program_script.proofs.running.Desk.close.Goals as goal

pub returns-in_err-report-clause-beginning : goal.returns-in_err-report-clause-beginning
returns-in_err-report-clause-beginning g c =
    on_err _ c.from_residual.result
    (λ bytes written h. ([], Appends-nil (g.W.Write.contents c.args.writer.now), begun_all g.K.Run.run.first bytes written (standing_of c.args.self) h))

pub returns-in_err-print_report-clause-beginning : goal.returns-in_err-print_report-clause-beginning
returns-in_err-print_report-clause-beginning g c =
    on_err _ c.from_residual-in_err-print_report.result
    (λ bytes written h. ([], Appends-nil (g.W.Write.contents c.args.writer.now), begun_all g.K.Run.run.first bytes written (standing_of c.args.self) h))

pub returns-in_err-write_text-clause-beginning : goal.returns-in_err-write_text-clause-beginning
returns-in_err-write_text-clause-beginning g c = on_err _ c.from_residual-in_err-write_text.result (λ bytes written h.
    let commits : c.len.result ≡ length c.in_ok-report.dones.items = search rules in
    let output = report_of _ _ _ _ _ c.in_ok-print_report.ensures.ok commits in
    let w = whole g.K.Run.run.first bytes written (string_bytes c.print_report.new.out) (standing_of c.args.self) c.in_ok-report.report c.in_ok-report.dones.items h
    c.in_ok-report.ensures.report c.in_ok-report.ensures.dones output in
    let err = c.in_err-write_text.ensures.err in (
      err.0,
      err.3,
      begun_report g.K.Run.run.first bytes written (string_bytes c.print_report.new.out) err.0 err.1 c.in_ok-report.report c.in_ok-report.dones.items w
          (sym c.as_bytes.ensures.value ∙ err.2),
    ))

pub returns-clause-whole : goal.returns-clause-whole
returns-clause-whole g c = λ bytes written h.
    let commits : c.len.result ≡ length c.in_ok-report.dones.items = search rules in
    let output = report_of _ _ _ _ _ c.in_ok-print_report.ensures.ok commits in
    let w = whole g.K.Run.run.first bytes written (string_bytes c.print_report.new.out) (standing_of c.args.self) c.in_ok-report.report c.in_ok-report.dones.items h
    c.in_ok-report.ensures.report c.in_ok-report.ensures.dones output in (
      string_bytes c.print_report.new.out,
      subst (Appends (g.W.Write.contents c.args.writer.now) (g.W.Write.contents c.write_text.new.writer))
          c.as_bytes.ensures.value c.in_ok-write_text.ensures.ok,
      w,
    )

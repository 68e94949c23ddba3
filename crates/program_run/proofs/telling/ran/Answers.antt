use Rattle.std.proofs.Common.{rules}
use Rattle.std.proofs.KnownBytes.{Appends-nil}
use Rattle.book.specs.History.{replay}
use Rattle.program_run.specs.Told.{IsCutShort, begun, unreported}
use Rattle.program_run.proofs.telling.ran.Goals as goal

pub returns-in-Ok-clause-told : goal.returns-in-Ok-clause-told
returns-in-Ok-clause-told g c = record {
  exact = c.in_ok-report.ensures.report;
  good = c.in_ok-report.ensures.good;
  wrote = c.in-Ok.ensures.whole;
}

pub returns-in_err-report-clause-cut_short : goal.returns-in_err-report-clause-cut_short
returns-in_err-report-clause-cut_short g c =
    let o = c.args.outcome.now in
    let w = g.W.Write.contents c.args.writer.now in
    let short : IsCutShort (replay g.K.Run.run.first o.closed) o.counts w w
    c.in_err-report.field-0.0 = unreported c.in_err-report.ensures.only_memory (Appends-nil w) in
    search rules

pub returns-in-Err-clause-cut_short : goal.returns-in-Err-clause-cut_short
returns-in-Err-clause-cut_short g c =
    let report = c.in_ok-report.report in
    let failed = c.in-Err.ensures.beginning in
    begun report failed.0 failed.1 c.in_ok-report.ensures.report failed.2 failed.3 failed.4

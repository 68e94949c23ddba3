use Rattle.std.proofs.Common.{◌≡◌, ℕ, ◌≤◌, sym, ap, ◌∙◌, subst, arith}
use Rattle.tables.specs.Records.{narrow_count}
use Rattle.totals.specs.Counts.{AreHeld}
use Rattle.totals_report.specs.Found.{IsFound}
use Rattle.totals_report.proofs.Least.{report_of_all, good_of_consistent}
use Rattle.totals_report.proofs.reporting.report_of.Goals as goal

ends : (n count : ℕ) → n ≤ count → count ≤ n → n ≡ count
ends n count h k = omega (arith, h, k)

pub loop-number-preserved : goal.loop-number-preserved
loop-number-preserved c = record {
  pen = c.ask.ensures.pen ∙ c.loop-number.invariant.pen;
  found = λ t totals are. c.ask.ensures.found t totals (subst (λ p. AreHeld p t) (sym c.loop-number.invariant.pen) are)
      (c.loop-number.invariant.found t totals are);
}

pub returns-clause-report : goal.returns-clause-report
returns-clause-report c = λ t totals are. report_of_all t totals.well_formed c.loop-number.report
    (subst (λ n. IsFound t n c.loop-number.report)
    (ends c.loop-number.number c.narrow_count-number-end.result c.loop-number.auto.number-end c.loop-number-test.false ∙ c.narrow_count-number-end.ensures
    ∙ ap narrow_count (sym c.requires.sums ∙ totals.sums_scale)) (c.loop-number.invariant.found t totals are))

pub returns-clause-good : goal.returns-clause-good
returns-clause-good c = λ t totals are consistent. good_of_consistent t c.loop-number.report consistent (returns-clause-report c t totals are)

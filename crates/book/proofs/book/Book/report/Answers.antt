use Rattle.std.proofs.Common.{◌≡◌, map, sym, subst}
use Rattle.std.specs.Arc.{arc_value}
use Rattle.tables.specs.Database.{Database}
use Rattle.totals_bounds.specs.Bounds.{BoundsView}
use Rattle.tables.specs.WellFormed.{IsWellFormed}
use Rattle.totals.specs.Totals.{SumsView, TotalsView, AreTotals}
use Rattle.totals_report.specs.Told.{HasTotals}
use Rattle.conditions.specs.Report.{IsReportOf}
use Rattle.book.specs.Book.{BookView}
use Rattle.book.specs.History.{replay}
use Rattle.book.proofs.TotalsKept.{held_there}
use Rattle.book.proofs.book.Book.report.Goals as goal

-- the totals that were asked are the book's
asked : (t : Database) (v : TotalsView) (s : SumsView) (b : BoundsView) → s ≡ v.sums → b ≡ v.bounds → AreTotals t v → IsWellFormed t → HasTotals s b t
asked t v s b same_sums same_bounds are well_formed =
    subst (λ (q : SumsView × BoundsView). HasTotals q.0 q.1 t) (λ i. (sym same_sums i, sym same_bounds i)) (record {
      sums_scale = are.sums_scale;
      bounds_scale = are.bounds_scale;
      sums = are.sums;
      bounds = are.bounds;
      well_formed = well_formed;
    })

pub returns-clause-report : goal.returns-clause-report
returns-clause-report g c =
    let history = map arc_value c.self.inside.history.items in
    let t = replay g.K.Run.run.first history in
    let i = c.self.invariant.0 in
    subst (λ (q : BookView). IsReportOf (replay g.K.Run.run.first q.history) c.report_of.result) c.self.view_is
    (c.report_of.ensures.report t (asked t c.self.inside.totals c.sums.result.now c.bounds.result.now c.sums.ensures c.bounds.ensures i.totals i.sound.well_formed)
    (held_there i.sound i.ready.of_population.scale))

pub returns-clause-good : goal.returns-clause-good
returns-clause-good g c =
    let history = map arc_value c.self.inside.history.items in
    let t = replay g.K.Run.run.first history in
    let i = c.self.invariant.0 in
    c.report_of.ensures.good t (asked t c.self.inside.totals c.sums.result.now c.bounds.result.now c.sums.ensures c.bounds.ensures i.totals i.sound.well_formed)
    (held_there i.sound i.ready.of_population.scale) i.sound.consistent

use Rattle.std.proofs.Common.{◌≡◌, sym, ap, ◌∙◌, subst}
use Rattle.tables.specs.Apply.{after}
use Rattle.tables_laws.proofs.Kept.{after-scale}
use Rattle.tables.proofs.Numbers.{narrow_among}
use Rattle.cells.specs.Records.{PenView}
use Rattle.totals_bounds.specs.Bounds.{BoundsView, AreBounds}
use Rattle.totals.specs.Counts.{AreHeld}
use Rattle.totals.specs.Totals.{SumsView, AreSums}
use Rattle.book.proofs.TotalsKept.{totals_after, within}
use Rattle.book.proofs.counting.store_counted.Goals as goal

pub returns-clause-totals : goal.returns-clause-totals
returns-clause-totals g c = λ t x reply may held.
    let same : c.follow.new.self.bounds ≡ c.args.totals.now.bounds = c.follow.ensures.bounds in
    let scale : t.scale ≡ c.follow.new.self.bounds.scale = sym may.totals.bounds_scale ∙ ap (λ (b : BoundsView). b.scale) (sym same) in
    let kept : c.follow_stores.new.self.sums ≡ c.follow.new.self.sums = c.follow_stores.ensures.sums in
    totals_after t x reply c.args.totals.now c.follow_stores.new.self c.args.pen.now c.args.entry.now.writes may
    (ap (λ (s : SumsView). s.scale) kept ∙ c.follow.ensures.scale)
    (c.follow_stores.ensures.scale ∙ ap (λ (b : BoundsView). b.scale) same)
    (subst (AreSums (after t x).scale (after t x)) (sym kept) (c.follow.ensures.sums t x reply may))
    (c.follow_stores.ensures.bounds t (after t x) scale (within t may.records.well_formed) (within (after t x) may.leaves)
    (record { scale = after-scale t x; rows = λ n below. may.commit.rows n (narrow_among t.scale n below) }) (subst (λ (pen : PenView). AreHeld pen (after t x)) c.follow_stores.ensures.pen held)
    (subst (AreBounds t.scale t) (sym same) may.totals.bounds))

use Rattle.std.proofs.Common.{sym, ap, ◌∙◌, subst}
use Rattle.tables.proofs.Numbers.{narrow_among}
use Rattle.totals_bounds.specs.Bounds.{BoundsView, AreBounds}
use Rattle.totals.specs.Totals.{TotalsView}
use Rattle.totals.proofs.totals.Totals.follow_stores.Goals as goal

pub returns-clause-bounds : goal.returns-clause-bounds
returns-clause-bounds c = λ t u scale orders orders_after with are bounds.
    let here = sym (ap (λ (v : TotalsView). v.bounds) c.self.view_is) in
    c.follow.ensures.bounds t u (scale ∙ ap (λ (v : BoundsView). v.scale) here) orders orders_after with
    (λ n small. are n (narrow_among u.scale n small)) (subst (AreBounds t.scale t) here bounds)

use Rattle.std.proofs.Common.{sym, ap, ◌∙◌, subst}
use Rattle.totals_bounds.specs.Bounds.{BoundsView, no_bounds}
use Rattle.cells.specs.Records.{held_by}
use Rattle.totals_bounds.specs.Ends.{AreEnds}
use Rattle.totals_bounds.proofs.Joined.{none_left}
use Rattle.totals_bounds.proofs.Recorded.{bounds_of}
use Rattle.totals_bounds.proofs.order_bounds.OrderBounds.of.Goals as goal

pub returns-clause-bounds : goal.returns-clause-bounds
returns-clause-bounds c = λ t scale within are.
    let held = held_by c.args.pen.now in
    let same = ap (λ (v : BoundsView). v.scale) c.in_ok-bounds.ensures.zeros in
    let none = c.in_ok-bounds.ensures.zeros ∙ ap no_bounds (sym same) in
    bounds_of t held are within c.follow_all.new.self
    (subst (λ s. AreEnds s held none_left c.follow_all.new.self) (same ∙ sym scale) (c.follow_all.ensures.ends none))

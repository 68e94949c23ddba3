use Rattle.std.proofs.Common.{sym, subst, ◌∙◌}
use Rattle.cells.specs.Records.{held_by}
use Rattle.totals_bounds.specs.Ends.{AreEnds, is_among}
use Rattle.totals_bounds.proofs.Joined.{none_left}
use Rattle.totals_bounds.proofs.Recorded.{ends_before, bounds_of}
use Rattle.totals_bounds.proofs.order_bounds.OrderBounds.follow.Goals as goal

pub returns-clause-bounds : goal.returns-clause-bounds
returns-clause-bounds c = λ t u scale within within_u after are bounds.
    let held = held_by c.args.pen.now in
    bounds_of u held are within_u c.follow_values.new.self
    (subst (λ s. AreEnds s held none_left c.follow_values.new.self) (sym (after.scale ∙ scale))
    (c.follow_values.ensures.ends
    (subst (λ s. AreEnds s held (is_among c.args.writes.now.values) c.args.self.now) scale
    (ends_before t u c.args.writes.now held c.args.self.now within after are bounds))))

use Rattle.std.proofs.Common.{◌≡◌, ℕ, true, subst}
use Rattle.cells.specs.Records.{held_by}
use Rattle.totals_bounds.proofs.Opening.{is_outside, outside, outside_follows}
use Rattle.totals_bounds.proofs.order_bounds.OrderBounds.follow_record.Goals as goal

pub returns-then-number-first-clause-follows : goal.returns-then-number-first-clause-follows
returns-then-number-first-clause-follows c =
    let v = c.args.self.now in
    outside_follows v.scale (held_by c.args.pen.now) c.args.number
    (subst (λ (q : ℕ × ℕ). is_outside q.0 q.1 c.args.number ≡ true) (λ i. (c.requires.first i, c.requires.end i))
    (outside c.args.first c.args.end c.args.number c.then-number-first.either)) v

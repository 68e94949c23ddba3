use Rattle.std.proofs.Common.{ℕ, ◌≤◌, All, List, Option, map, sym, subst}
use Rattle.cells.specs.Records.{held_by}
use Rattle.readset.specs.Writes.{as_written}
use Rattle.readset.proofs.WritesListed.{wide_behind}
use Rattle.totals_bounds.specs.Ends.{AreEnds, is_among}
use Rattle.totals_bounds.proofs.Recorded.{ends_beyond}
use Rattle.totals_bounds.proofs.order_bounds.OrderBounds.follow_values.Goals as goal

pub returns-clause-ends : goal.returns-clause-ends
returns-clause-ends c = λ before.
    let s = c.args.self.now.scale in
    let held = held_by c.args.pen.now in
    let narrow = c.parts.result.0.now in
    let wide : List (ℕ × Option (List ℕ)) = map as_written c.parts.result.1.now in
    let parts = c.parts.ensures in
    ends_beyond s held c.follow_narrow.new.self wide
    (subst (λ n. All (λ (e : ℕ × Option (List ℕ)). n ≤ e.0) wide) c.requires.count.narrow
    (wide_behind c.args.cells.now narrow wide c.args.writes.now c.requires.kinds parts.values parts.kinds))
    (c.follow_narrow.ensures.ends wide
    (subst (λ (ws : List (ℕ × Option (List ℕ))). AreEnds s held (is_among ws) c.args.self.now) (sym parts.values) before))

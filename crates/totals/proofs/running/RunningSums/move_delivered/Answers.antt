use Rattle.std.proofs.Common.{refl, ap, ◌∙◌}
use Rattle.std.specs.Int.{w64}
use Rattle.totals.specs.Totals.{SumsView}
use Rattle.totals.specs.Steps.{delivered_step}
use Rattle.totals.specs.contracts.running.RunningSums.{the_view}
use Rattle.totals.proofs.Wraps.{moved_by, stored}
use Rattle.totals.proofs.running.RunningSums.move_delivered.Goals as goal

pub returns : goal.returns
returns c =
    let moves = moved_by w64 c.self.inside.delivered.items _ _ _ _ _ _ _ _ c.ranges.after c.ranges.before c.move_amount.ensures c.deref_mut.ensures.value
    c.place_of_buyer-place.ensures.value refl refl in
    (λ i. record (the_view c.self.inside) { delivered = stored w64 c.self.inside.delivered _ _ _ moves i })
    ∙ ap (λ (v : SumsView). delivered_step v c.args.district c.args.order.now c.args.before c.args.after) c.self.view_is

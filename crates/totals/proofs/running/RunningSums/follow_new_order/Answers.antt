use Rattle.std.proofs.Common.{rules, ◌/◌, FitsSigned, option_copied, sym, ap, ◌∙◌}
use Rattle.std.specs.Int.{w64}
use Rattle.tables.specs.Records.{order_at}
use Rattle.totals_bounds.proofs.KeysAt.{district_same}
use Rattle.totals.specs.Totals.{SumsView}
use Rattle.totals.specs.Steps.{new_order_step}
use Rattle.totals.specs.contracts.running.RunningSums.{the_view}
use Rattle.totals.proofs.Wraps.{moved_by, stored}
use Rattle.totals.proofs.running.RunningSums.follow_new_order.Goals as goal

pub returns : goal.returns
returns c =
    let s = c.self.inside.scale in
    let new : FitsSigned w64 c.presence-after.result = search rules in
    let old : FitsSigned w64 c.presence-before.result = search rules in
    let place = c.district_of_order-district.ensures.value ∙ sym (district_same s (c.args.place / s.orders)) in
    let moves = moved_by w64 c.self.inside.waiting.items _ _ _ _ _ _ _ _ new old c.move_amount.ensures c.deref_mut.ensures.value place
    c.presence-after.ensures c.presence-before.ensures in
    (λ i. record (the_view c.self.inside) { waiting = stored w64 c.self.inside.waiting _ _ _ moves i })
    ∙ ap (λ (v : SumsView). new_order_step v (order_at v.scale c.args.place) (option_copied c.args.old) (option_copied c.args.new)) c.self.view_is

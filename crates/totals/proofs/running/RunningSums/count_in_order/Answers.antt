use Rattle.std.proofs.Common.{rules, FitsSigned, option_copied, refl, ap, ◌∙◌}
use Rattle.std.specs.Int.{w8}
use Rattle.totals.specs.Totals.{SumsView}
use Rattle.totals.specs.Steps.{order_line_step}
use Rattle.totals.specs.contracts.running.RunningSums.{the_view}
use Rattle.totals.proofs.Wraps.{moved_by, stored}
use Rattle.totals.proofs.running.RunningSums.count_in_order.Goals as goal

pub returns : goal.returns
returns c =
    let new : FitsSigned w8 c.small_presence-after.result = search rules in
    let old : FitsSigned w8 c.small_presence-before.result = search rules in
    let moves = moved_by w8 c.self.inside.order_lines.items _ _ _ _ _ _ _ _ new old c.move_small.ensures c.deref_mut.ensures.value refl
    c.small_presence-after.ensures c.small_presence-before.ensures in
    (λ i. record (the_view c.self.inside) { order_lines = stored w8 c.self.inside.order_lines _ _ _ moves i })
    ∙ ap (λ (v : SumsView). order_line_step v c.args.order (option_copied c.args.old) (option_copied c.args.new)) c.self.view_is

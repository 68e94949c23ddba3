use Rattle.std.proofs.Common.{◌∙◌, pos, sym}
use Rattle.tables.specs.Keys.{is_district}
use Rattle.tables.proofs.Orders.{exact_order}
use Rattle.tables.proofs.Totals.{total-view}
use Rattle.conditions_walks.specs.Amounts.{share}
use Rattle.conditions.proofs.sums.OrderSums.of.Goals as goal

pub returns : goal.returns
returns c = record {
  orders = c.in_ok-orders.ensures;
  new_orders = c.in_ok-new_orders.ensures;
  line_counts = λ k. c.in_ok-line_counts.ensures.sums k
      ∙ sym (total-view exact_order (λ j r. share (is_district j.warehouse j.district k) (pos r.line_count)) c.args.tables.now.orders
      c.in_ok-line_counts.ensures.ordered);
}

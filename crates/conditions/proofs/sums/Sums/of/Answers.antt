use Rattle.std.proofs.Common.{◌==◌, ◌∙◌, sym}
use Rattle.tables.proofs.Orders.{exact_district}
use Rattle.tables.proofs.Totals.{total-view}
use Rattle.conditions_walks.specs.Amounts.{share}
use Rattle.conditions.proofs.sums.Sums.of.Goals as goal

pub returns : goal.returns
returns c = record {
  districts = λ w. c.in_ok-districts.ensures.sums w
      ∙ sym (total-view exact_district (λ k r. share (k.warehouse == w) r.year_to_date) c.args.tables.now.districts c.in_ok-districts.ensures.ordered);
  orders = c.in_ok-orders.ensures;
  lines = c.in_ok-lines.ensures;
  history = c.in_ok-history.ensures;
}

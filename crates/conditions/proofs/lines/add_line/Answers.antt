use Rattle.std.proofs.lemmas.Result.{on_ok_weaker}
use Rattle.conditions.proofs.lines.add_line.Goals as goal

pub returns-clause-added : goal.returns-clause-added
returns-clause-added c = on_ok_weaker c.add_row-3.result (λ sums. record {
  districts = c.in_ok-add_row.ensures.sums;
  orders = c.in_ok-add_row-2.ensures.sums;
  delivered = sums;
  customers = c.add_row-3.ensures.stays;
}) c.add_row-3.ensures.sums

pub returns-clause-within : goal.returns-clause-within
returns-clause-within c = on_ok_weaker c.add_row-3.result (λ within n before. record {
  districts = c.in_ok-add_row.ensures.within n before.districts;
  orders = c.in_ok-add_row-2.ensures.within n before.orders;
  delivered = within n before.delivered;
}) c.add_row-3.ensures.within

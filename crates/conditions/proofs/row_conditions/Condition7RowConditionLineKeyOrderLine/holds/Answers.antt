use Rattle.conditions.proofs.Told.{same_told, none_test}
use Rattle.conditions.proofs.row_conditions.Condition7RowConditionLineKeyOrderLine.holds.Goals as goal

pub returns-clause-answer : goal.returns-clause-answer
returns-clause-answer c = same_told _ _ _ _ c.same.ensures (none_test c.args.row.now.delivery_date _ c.is_none.ensures)
    (rw c.order_key.ensures at c.is_without_carrier.ensures.answer)

use Rattle.conditions.proofs.Told.{same_told, none_test}
use Rattle.conditions.proofs.row_conditions.Condition5RowConditionOrderKeyOrder.holds.Goals as goal

pub returns-clause-answer : goal.returns-clause-answer
returns-clause-answer c = same_told _ _ _ _ c.same.ensures (none_test c.args.row.now.carrier _ c.is_none.ensures)
    c.is_new.ensures.answer

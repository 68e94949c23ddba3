use Rattle.std.proofs.Common.{◌+◌, ◌-◌, ◌∙◌, arith}
use Rattle.population_tables.specs.Plain.{plain_history_row}
use Rattle.population_tables.proofs.Lists.{rows_more}
use Rattle.population_tables.proofs.district.add_payments.Goals as goal

pub loop-payer-preserved : goal.loop-payer-preserved
loop-payer-preserved c = c.in_ok-push.ensures.items ∙ rows_more (plain_history_row c.args.of.warehouse c.args.of.district) c.loop-payer.payer
    (c.loop-payer.payer + 1 - 1) _ _ _ (omega arith) (omega arith) c.history_row.ensures c.loop-payer.invariant

pub returns-in_ok-push : goal.returns-in_ok-push
returns-in_ok-push c = c.in_ok-push.ensures.items ∙ rows_more (plain_history_row c.args.of.warehouse c.args.of.district) c.loop-payer.payer
    c.args.scale.customers _ _ _ (omega arith) (omega arith) c.history_row.ensures c.loop-payer.invariant

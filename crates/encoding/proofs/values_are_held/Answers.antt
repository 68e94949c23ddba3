use Rattle.encoding.proofs.Below.{own_rows}
use Rattle.encoding.proofs.Values.{lawful_rows, lawful_values, rows_held, is_of}
use Rattle.encoding.proofs.values_are_held.Goals as goal

pub returns-clause-may_hold : goal.returns-clause-may_hold
returns-clause-may_hold c = lawful_rows

pub returns-clause-lawful : goal.returns-clause-lawful
returns-clause-lawful c = lawful_values

pub returns-clause-rows : goal.returns-clause-rows
returns-clause-rows c = λ t0 t values. rows_held t0 values t

pub returns-clause-population : goal.returns-clause-population
returns-clause-population c = λ t0 t values. is_of t0 values t

pub returns-clause-own : goal.returns-clause-own
returns-clause-own c = λ t0 t values. own_rows t0 t values

use Rattle.std.proofs.Common.{◌≡◌, ◌-◌, ◌++◌, map}
use Rattle.population_tables.specs.Plain.{numbers, plain_history_row}
use Rattle.population_tables.proofs.district.add_payments.Given as goal

abbrev pub invariant-loop-payer : goal.invariant-loop-payer
invariant-loop-payer l = l.table.items ≡ l.fn.table.items ++ map (λ c. plain_history_row l.fn.of.warehouse l.fn.of.district c) (numbers (l.payer - 1))

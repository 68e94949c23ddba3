use Rattle.std.proofs.Common.{◌≡◌, ◌+◌, length, All}
use Rattle.tables.specs.Sizes.{IsNumber}
use Rattle.population_tables.proofs.district.customer_numbers.Given as goal

abbrev pub invariant-loop-customer : goal.invariant-loop-customer
invariant-loop-customer l = (length l.numbers.items + 1 ≡ l.customer) × All (IsNumber l.fn.scale.customers) l.numbers.items

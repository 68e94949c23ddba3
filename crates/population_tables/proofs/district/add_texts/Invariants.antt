use Rattle.std.specs.FinMap.{from_entries}
use Rattle.population_tables.specs.Adds.{is_at, is_in, AddsTexts}
use Rattle.population_tables.proofs.district.add_texts.Given as goal

abbrev pub invariant-loop-customer : goal.invariant-loop-customer
invariant-loop-customer l = AddsTexts (is_at l.fn.of.warehouse l.fn.of.district) (is_in 1 l.customer) (from_entries l.fn.table.entries)
    (from_entries l.table.entries)

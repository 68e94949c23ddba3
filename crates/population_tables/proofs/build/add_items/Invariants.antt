use Rattle.std.specs.FinMap.{from_entries}
use Rattle.population_tables.specs.Adds.{is_in, AddsItems}
use Rattle.population_tables.proofs.build.add_items.Given as goal

abbrev pub invariant-loop-item : goal.invariant-loop-item
invariant-loop-item g l = AddsItems g.S.Source.kind (is_in 1 l.item) (from_entries l.fn.table.entries) (from_entries l.table.entries)

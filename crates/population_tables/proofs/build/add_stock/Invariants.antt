use Rattle.std.specs.FinMap.{from_entries}
use Rattle.population_tables.specs.Adds.{is, is_in, AddsStock}
use Rattle.population_tables.proofs.build.add_stock.Given as goal

abbrev pub invariant-loop-item : goal.invariant-loop-item
invariant-loop-item g l = AddsStock g.S.Source.kind (is l.fn.warehouse) (is_in 1 l.item) (from_entries l.fn.table.entries) (from_entries l.table.entries)

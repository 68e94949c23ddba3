use Rattle.std.proofs.Common.{◌+◌}
use Rattle.std.specs.FinMap.{from_entries}
use Rattle.population_tables.specs.Plain.{delivered_orders}
use Rattle.population_tables.specs.Adds.{is_at, is_in, AddsNewOrders}
use Rattle.population_tables.proofs.district.add_new_orders.Given as goal

abbrev pub invariant-loop-order : goal.invariant-loop-order
invariant-loop-order l = AddsNewOrders (is_at l.fn.of.warehouse l.fn.of.district) (is_in (delivered_orders l.fn.scale + 1) l.order) (from_entries l.fn.table.entries)
    (from_entries l.table.entries)

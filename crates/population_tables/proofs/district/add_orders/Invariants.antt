use Rattle.std.specs.FinMap.{from_entries}
use Rattle.population_tables.specs.Adds.{is_at, is_in, is_order_in, AddsOrders}
use Rattle.population_tables.proofs.district.add_orders.Given as goal

abbrev pub invariant-loop-order : goal.invariant-loop-order
invariant-loop-order g l = AddsOrders g.S.Source.kind l.fn.scale (is_order_in (is_at l.fn.of.warehouse l.fn.of.district) (is_in 1 l.order))
    (from_entries l.fn.orders.entries) (from_entries l.orders.entries) (from_entries l.fn.lines.entries) (from_entries l.lines.entries)

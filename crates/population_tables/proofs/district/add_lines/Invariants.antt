use Rattle.std.specs.FinMap.{from_entries}
use Rattle.population_tables.specs.Adds.{is_in, is_order_at, is_line_in, AddsLines}
use Rattle.population_tables.proofs.district.add_lines.Given as goal

abbrev pub invariant-loop-line : goal.invariant-loop-line
invariant-loop-line g l = AddsLines g.S.Source.kind l.fn.scale (is_order_at l.fn.of) (is_line_in (is_in 1 l.line)) (from_entries l.fn.table.entries)
    (from_entries l.table.entries)

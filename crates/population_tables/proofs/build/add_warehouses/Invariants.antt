use Rattle.std.proofs.Common.{◌-◌}
use Rattle.std.specs.List.{flat_map}
use Rattle.tables.specs.Database.{database}
use Rattle.population_tables.specs.Plain.{numbers, warehouse_payments}
use Rattle.population_tables.specs.Adds.{is_in, is_before, AddsWarehouses}
use Rattle.population_tables.proofs.build.add_warehouses.Given as goal

abbrev pub invariant-loop-warehouse : goal.invariant-loop-warehouse
invariant-loop-warehouse g l = AddsWarehouses g.S.Source.kind l.fn.scale (is_in 1 l.warehouse) (is_before l.fn.scale l.warehouse)
    (flat_map (λ w. warehouse_payments l.fn.scale w) (numbers (l.warehouse - 1))) (database l.fn.tables) (database l.tables)

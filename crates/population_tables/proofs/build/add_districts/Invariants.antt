use Rattle.std.proofs.Common.{◌-◌}
use Rattle.std.specs.List.{flat_map}
use Rattle.tables.specs.Database.{database}
use Rattle.population_tables.specs.Plain.{numbers, district_payments}
use Rattle.population_tables.specs.Adds.{is_below, AddsDistricts, KeepsOtherTables}
use Rattle.population_tables.proofs.build.add_districts.Given as goal

abbrev pub invariant-loop-district : goal.invariant-loop-district
invariant-loop-district g l = AddsDistricts g.S.Source.kind l.fn.scale (is_below l.fn.warehouse l.district)
    (flat_map (λ d. district_payments l.fn.scale l.fn.warehouse d) (numbers (l.district - 1))) (database l.fn.tables) (database l.tables)
    × KeepsOtherTables (database l.fn.tables) (database l.tables)

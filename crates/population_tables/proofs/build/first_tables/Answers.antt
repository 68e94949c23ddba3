use Rattle.std.proofs.Common.{refl}
use Rattle.population_tables.proofs.Whole.{all_first}
use Rattle.population_tables.proofs.build.first_tables.Goals as goal

pub returns-clause-rows : goal.returns-clause-rows
returns-clause-rows g c = all_first g.S.Source.kind c.args.scale c.new-tables.ensures refl refl refl refl refl refl c.in_ok-reserve.ensures.items refl refl refl refl
    c.in_ok-add_items.ensures c.in_ok-add_warehouses.ensures

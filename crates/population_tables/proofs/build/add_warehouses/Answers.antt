use Rattle.std.proofs.Common.{◌+◌, ◌-◌, arith}
use Rattle.population_tables.proofs.DistrictsAdded.{warehouse_more}
use Rattle.population_tables.proofs.build.add_warehouses.Goals as goal

pub loop-warehouse-preserved : goal.loop-warehouse-preserved
loop-warehouse-preserved g c = warehouse_more c.loop-warehouse.warehouse _ (c.loop-warehouse.warehouse + 1 - 1) (omega arith) (omega arith) (omega arith)
    c.loop-warehouse.invariant c.in_ok-add_warehouse.ensures

pub returns-in_ok-add_warehouse : goal.returns-in_ok-add_warehouse
returns-in_ok-add_warehouse g c = warehouse_more c.loop-warehouse.warehouse _ c.args.scale.warehouses (omega arith) (omega arith) (omega arith)
    c.loop-warehouse.invariant c.in_ok-add_warehouse.ensures

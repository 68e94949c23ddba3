use Rattle.std.proofs.Common.{refl}
use Rattle.tables.specs.Database.{database}
use Rattle.tables.specs.declared.rows.Warehouse.{Warehouse}
use Rattle.tables.proofs.Orders.{exact_number}
use Rattle.population.proofs.Columns.{column_some, column_none}
use Rattle.population.proofs.rates.warehouse_tax_in.Goals as goal

pub returns-in-Some : goal.returns-in-Some
returns-in-Some c =
    column_some exact_number (λ (r : Warehouse). r.tax) 0 c.args.tables.now.warehouses (database c.args.tables.now).warehouses refl c.args.warehouse c.in-Some.row.now
    c.in-Some.ensures.value

pub returns-in-None : goal.returns-in-None
returns-in-None c =
    column_none exact_number (λ (r : Warehouse). r.tax) 0 c.args.tables.now.warehouses (database c.args.tables.now).warehouses refl c.args.warehouse c.no_rate.result
    c.no_rate.ensures c.in-None.ensures.value

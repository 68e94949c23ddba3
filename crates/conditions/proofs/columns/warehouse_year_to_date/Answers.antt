use Rattle.std.proofs.Common.{◌∙◌}
use Rattle.tables.specs.declared.rows.Warehouse.{Warehouse}
use Rattle.tables.proofs.Orders.{exact_number}
use Rattle.tables.proofs.LookUps.{column-found, column-missing}
use Rattle.conditions.proofs.columns.warehouse_year_to_date.Goals as goal

pub returns-in-Some : goal.returns-in-Some
returns-in-Some c = column-found exact_number (λ (r : Warehouse). r.year_to_date) c.args.tables.now.warehouses c.args.warehouse.now c.in-Some.row.now
    c.in-Some.ensures.value

pub returns-in-None : goal.returns-in-None
returns-in-None c = c.new.ensures ∙ column-missing exact_number (λ (r : Warehouse). r.year_to_date) c.args.tables.now.warehouses c.args.warehouse.now
    c.in-None.ensures.value

use Rattle.std.proofs.Common.{◌≡◌, Option, is_none, true}
use Rattle.std.specs.Option.{option_map_or}
use Rattle.tables.specs.Keys.{order_of}
use Rattle.tables.specs.declared.keys.LineKey.{LineKey}
use Rattle.tables.specs.declared.keys.OrderKey.{OrderKey}
use Rattle.tables.specs.declared.rows.Order.{Order}
use Rattle.tables.specs.declared.rows.OrderLine.{OrderLine}
use Rattle.tables.proofs.Orders.{exact_order, exact_line}
use Rattle.conditions.proofs.Told.{walked_rows}
use Rattle.conditions.proofs.Searched.{finds_told}
use Rattle.conditions.proofs.row_conditions.Condition7.least.Goals as goal

pub returns : goal.returns
returns c = finds_told exact_line c.args.tables.now.lines
    (λ (row : OrderKey → Option Order) (k : LineKey) (line : OrderLine).
    is_none line.delivery_date ≡ option_map_or (λ order. is_none order.carrier) (row (order_of k)) true) _ _
    (walked_rows exact_order c.args.tables.now.orders c.new.result c.new.ensures) c.least_row.result c.least_row.ensures

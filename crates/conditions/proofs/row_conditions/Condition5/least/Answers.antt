use Rattle.std.proofs.Common.{◌≡◌, Option, is_none, is_some}
use Rattle.tables.specs.declared.keys.OrderKey.{OrderKey}
use Rattle.tables.specs.declared.rows.NewOrder.{NewOrder}
use Rattle.tables.specs.declared.rows.Order.{Order}
use Rattle.tables.proofs.Orders.{exact_order}
use Rattle.conditions.proofs.Told.{walked_rows}
use Rattle.conditions.proofs.Searched.{finds_told}
use Rattle.conditions.proofs.row_conditions.Condition5.least.Goals as goal

pub returns : goal.returns
returns c = finds_told exact_order c.args.tables.now.orders
    (λ (row : OrderKey → Option NewOrder) (k : OrderKey) (order : Order). is_none order.carrier ≡ is_some (row k)) _ _
    (walked_rows exact_order c.args.tables.now.new_orders c.new.result c.new.ensures) c.least_row.result
    c.least_row.ensures

use Rattle.std.proofs.Common.{◌≡◌, true, Option, is_some}
use Rattle.tables.specs.Database.{database}
use Rattle.tables.specs.declared.keys.OrderKey.{OrderKey}
use Rattle.tables.specs.declared.rows.NewOrder.{NewOrder}
use Rattle.tables.specs.declared.rows.Order.{Order}
use Rattle.tables.proofs.Orders.{exact_order}
use Rattle.conditions.proofs.Told.{walked_rows}
use Rattle.conditions_reach.proofs.Counts.{each_along}
use Rattle.conditions_reach.proofs.belonging.new_orders_belong.Goals as goal

pub returns : goal.returns
returns c = each_along (database c.args.tables.now).new_orders
    (λ (row : OrderKey → Option Order) (k : OrderKey) (r : NewOrder). is_some (row k) ≡ true) _ _
    (walked_rows exact_order c.args.tables.now.orders c.new.result c.new.ensures) c.holds_of_each.ensures

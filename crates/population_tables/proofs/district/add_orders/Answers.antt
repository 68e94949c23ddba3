use Rattle.std.proofs.Common.{arith}
use Rattle.population_tables.proofs.OrdersAdded.{order_more}
use Rattle.population_tables.proofs.district.add_orders.Goals as goal

pub loop-order-preserved : goal.loop-order-preserved
loop-order-preserved g c = order_more c.args.of.warehouse c.args.of.district c.loop-order.order _ (omega arith) (omega arith) c.loop-order.invariant
    c.in_ok-add_order.ensures

pub returns-in_ok-add_order : goal.returns-in_ok-add_order
returns-in_ok-add_order g c = order_more c.args.of.warehouse c.args.of.district c.loop-order.order _ (omega arith) (omega arith) c.loop-order.invariant
    c.in_ok-add_order.ensures

use Rattle.population_tables.proofs.OrdersAdded.{one_order}
use Rattle.population_tables.proofs.district.add_order.Goals as goal

pub returns : goal.returns
returns g c = one_order g.S.Source.kind c.args.scale c.args.orders.now c.insert.new.self c.args.key c.order-order.result c.order-order.ensures.row
    c.in_ok-insert.ensures.updates c.in_ok-add_lines.ensures

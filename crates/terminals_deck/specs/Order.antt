-- A drawn order.
use Rattle.std.specs.Prelude.{take}
use Rattle.tables.specs.declared.new_order.NewOrderInput.{NewOrderInput}
use Rattle.terminals_deck.specs.declared.order.DrawnOrder.{DrawnOrder}

-- its input: of its lines, the first are its own
abbrev pub new_order_of : DrawnOrder → NewOrderInput
new_order_of x = record {
  date = x.date;
  warehouse = x.warehouse;
  district = x.district;
  customer = x.customer;
  lines = take x.count x.lines;
}

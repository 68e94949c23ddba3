-- The reply of a New-Order, by what its execution has of it.
use Rattle.std.specs.Prelude.{ℤ, List}
use Rattle.money.specs.Total.{total_amount}
use Rattle.tables.specs.Database.{Database}
use Rattle.tables.specs.NewOrder.{home, buyer, discount, warehouse_tax, district_tax}
use Rattle.tables.specs.declared.keys.OrderKey.{OrderKey}
use Rattle.tables.specs.declared.new_order.NewOrderInput.{NewOrderInput}
use Rattle.tables.specs.declared.new_order.SuppliedLine.{SuppliedLine}
use Rattle.tables.specs.declared.new_order.NewOrderReply.{NewOrderReply}

-- the reply for an order of this key, whose amounts have this sum, with these lines. Discount and taxes are those of
-- t0, since they never change
abbrev pub order_reply_of : Database → NewOrderInput → OrderKey → ℤ → List SuppliedLine → NewOrderReply
order_reply_of t0 x order sum supplied = record {
  warehouse = x.warehouse;
  district = x.district;
  order = order.order;
  customer = x.customer;
  amount = sum;
  total = total_amount sum (discount t0 (buyer x)) (warehouse_tax t0 x.warehouse) (district_tax t0 (home x));
  lines = supplied;
}

-- Delivery (TPC-C 2.7): the ranges of its input, what it does to the tables, and its reply. It does all districts of
-- its warehouse in one transaction.
use Rattle.std.specs.Prelude.{ℕ, ◌+◌, ℤ, ◌+ℤ◌, Bool, false, not, ◌==◌, cond, Option, None, Some, map}
use Rattle.std.specs.List.{range_with_len}
use Rattle.std.specs.Option.{option_map_or}
use Rattle.std.specs.FinMap.{get, retain_keys}
use Rattle.tables.specs.Sizes.{Sizes, IsBetween, IsNumber}
use Rattle.tables.specs.Keys.{is_order, order_of}
use Rattle.tables.specs.Maps.{sum_where, map_rows, update_where}
use Rattle.tables.specs.OrderNumbers.{least, numbers_in}
use Rattle.tables.specs.Database.{Database}
use Rattle.tables.specs.declared.limits.TheConstants.{MAX_DATE, MAX_CARRIER}
use Rattle.tables.specs.declared.keys.DistrictKey.{DistrictKey}
use Rattle.tables.specs.declared.keys.CustomerKey.{CustomerKey}
use Rattle.tables.specs.declared.keys.OrderKey.{OrderKey}
use Rattle.tables.specs.declared.rows.Customer.{Customer}
use Rattle.tables.specs.declared.rows.Order.{Order}
use Rattle.tables.specs.declared.rows.OrderLine.{OrderLine}
use Rattle.tables.specs.declared.delivery.DeliveryInput.{DeliveryInput}
use Rattle.tables.specs.declared.delivery.DeliveryReply.{DeliveryReply}

-- the ranges of its input (TPC-C 2.7.1)
pub record IsDelivery (s : Sizes) (x : DeliveryInput) : Type 0 where
  pub date : IsBetween 1 MAX_DATE x.date
  pub warehouse : IsNumber s.warehouses x.warehouse
  pub carrier : IsNumber MAX_CARRIER x.carrier

-- the order of a district that has waited longest: its least NO_O_ID, where it has a NEW-ORDER row
abbrev pub waiting : Database → DistrictKey → Option ℕ
waiting t k = least (numbers_in k t.new_orders)

-- the order that a Delivery takes in a district: the one that waits there, in each district of its warehouse
abbrev pub taken : Database → DeliveryInput → DistrictKey → Option ℕ
taken t x k = cond (k.warehouse == x.warehouse) (waiting t k) None

-- whether it takes this order
abbrev pub is_taken : Database → DeliveryInput → OrderKey → Bool
is_taken t x k =
    option_map_or (λ o. o == k.order) (taken t x (record { warehouse = k.warehouse; district = k.district })) false

-- O_CARRIER_ID and OL_DELIVERY_D are set
abbrev pub carried : DeliveryInput → Order → Order
carried x r = record r { carrier = Some x.carrier }

abbrev pub dated : DeliveryInput → OrderLine → OrderLine
dated x r = record r { delivery_date = Some x.date }

-- the sum of OL_AMOUNT over an order's lines
abbrev pub order_amount : Database → OrderKey → ℤ
order_amount t k = sum_where (λ j line. is_order j.warehouse j.district j.order k) (λ line. line.amount) t.lines

-- whether an order is this customer's
abbrev pub is_order_of : Database → OrderKey → ℕ → Bool
is_order_of t k c = option_map_or (λ order. order.customer == c) (get t.orders k) false

-- C_BALANCE raised by an order's sum, and C_DELIVERY_CNT by 1
abbrev pub credited : Database → OrderKey → Customer → Customer
credited t k r = record r { balance = r.balance +ℤ order_amount t k; deliveries = r.deliveries + 1 }

-- a customer's row where this order of its district was taken, or none was
abbrev pub after_taken : Database → CustomerKey → Option ℕ → Customer → Customer
after_taken t c None r = r
after_taken t c (Some o) r =
    let k : OrderKey = record { warehouse = c.warehouse; district = c.district; order = o } in
    cond (is_order_of t k c.customer) (credited t k r) r

-- the tables after it (TPC-C 2.7.4.2): all that it does goes by the tables before
abbrev pub after_delivery : Database → DeliveryInput → Database
after_delivery t x = record t {
  customers = map_rows (λ c r. after_taken t c (taken t x (record { warehouse = c.warehouse; district = c.district }))
      r)
      t.customers;
  new_orders = retain_keys t.new_orders (λ k. not (is_taken t x k));
  orders = update_where (is_taken t x) (carried x) t.orders;
  lines = update_where (λ j. is_taken t x (order_of j)) (dated x) t.lines;
}

-- its reply: for each district of the warehouse, from 1 on, the order taken, if there was one
abbrev pub delivery_reply : Database → DeliveryInput → DeliveryReply
delivery_reply t x = record {
  warehouse = x.warehouse;
  orders = map (λ d. record { district = d; order = waiting t (record { warehouse = x.warehouse; district = d }) })
      (range_with_len 1 t.scale.districts);
}

-- Order-Status (TPC-C 2.6): the ranges of its input, and its reply. It changes nothing.
use Rattle.std.specs.Prelude.{ℕ, List, map}
use Rattle.std.specs.List.{filter}
use Rattle.std.specs.Option.{option_map}
use Rattle.std.specs.FinMap.{get, entries}
use Rattle.tables.specs.Sizes.{Sizes, IsBetween, IsNumber}
use Rattle.tables.specs.Keys.{is_order, order_of}
use Rattle.tables.specs.Maps.{column}
use Rattle.tables.specs.Database.{Database}
use Rattle.tables.specs.Rows.{last}
use Rattle.tables.specs.Customer.{IsWho, customer_number}
use Rattle.tables.specs.declared.limits.TheConstants.{MAX_DATE}
use Rattle.tables.specs.declared.keys.CustomerKey.{CustomerKey}
use Rattle.tables.specs.declared.keys.OrderKey.{OrderKey}
use Rattle.tables.specs.declared.keys.LineKey.{LineKey}
use Rattle.tables.specs.declared.rows.Order.{Order}
use Rattle.tables.specs.declared.rows.OrderLine.{OrderLine}
use Rattle.tables.specs.declared.order_status.OrderStatusInput.{OrderStatusInput}
use Rattle.tables.specs.declared.order_status.LastOrder.{LastOrder}
use Rattle.tables.specs.declared.order_status.OrderStatusReply.{OrderStatusReply}

-- the ranges of its input (TPC-C 2.6.1)
pub record IsOrderStatus (s : Sizes) (x : OrderStatusInput) : Type 0 where
  pub date : IsBetween 1 MAX_DATE x.date
  pub warehouse : IsNumber s.warehouses x.warehouse
  pub district : IsNumber s.districts x.district
  pub who : IsWho s x.who

-- the C_ID of the customer that is asked for
abbrev pub asked_number : Database → OrderStatusInput → ℕ
asked_number t x = customer_number t (record { warehouse = x.warehouse; district = x.district }) x.who

-- customer c as the one that is asked for
abbrev pub asked : OrderStatusInput → ℕ → CustomerKey
asked x c = record { warehouse = x.warehouse; district = x.district; customer = c }

-- the key of its last order, which has the greatest O_ID. A customer without orders has no row there
abbrev pub last_key : Database → CustomerKey → OrderKey
last_key t k = record { warehouse = k.warehouse; district = k.district; order = last t k }

-- an order's lines, in the order of their numbers, as ORDER-LINE is in the order of its keys
abbrev pub lines_of : Database → OrderKey → List OrderLine
lines_of t k = map (λ (e : LineKey × OrderLine). e.1)
    (filter (λ (e : LineKey × OrderLine). is_order k.warehouse k.district k.order (order_of e.0)) (entries t.lines))

-- what is told of an order
abbrev pub told_of : Database → OrderKey → Order → LastOrder
told_of t k r = record { order = k.order; entry_date = r.entry_date; carrier = r.carrier; lines = lines_of t k }

-- its reply (TPC-C 2.6.2.2), where customer c is asked for
abbrev pub order_status_reply_of : Database → OrderStatusInput → ℕ → OrderStatusReply
order_status_reply_of t x c = record {
  warehouse = x.warehouse;
  district = x.district;
  customer = c;
  balance = column (λ r. r.balance) t.customers (asked x c);
  order = option_map (told_of t (last_key t (asked x c))) (get t.orders (last_key t (asked x c)));
}

-- and where the one that is meant is
abbrev pub order_status_reply : Database → OrderStatusInput → OrderStatusReply
order_status_reply t x = order_status_reply_of t x (asked_number t x)

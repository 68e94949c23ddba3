-- What a transaction comes to: which tables it leaves, and what it replies.
use Rattle.std.specs.Prelude.{ℕ, Option, None, Some}
use Rattle.tables.specs.Database.{Database}
use Rattle.tables.specs.Payment.{after_payment, payment_reply}
use Rattle.tables.specs.NewOrder.{first_missing, after_new_order, new_order_reply, HasNumber}
use Rattle.tables.specs.Delivery.{after_delivery, delivery_reply}
use Rattle.tables.specs.OrderStatus.{order_status_reply}
use Rattle.tables.specs.StockLevel.{stock_level_reply}
use Rattle.tables.specs.declared.new_order.NewOrderInput.{NewOrderInput}
use Rattle.tables.specs.declared.input.Input.{Input}
use Rattle.tables.specs.declared.input.Input.TheVariants as input
use Rattle.tables.specs.declared.reply.Reply.{Reply}
use Rattle.tables.specs.declared.reply.Reply.TheVariants as reply

-- the tables and the reply of a transaction that commits, or the first item of one that is rolled back, which isn't in
-- ITEM (TPC-C 2.4.2.3)
pub data Outcome : Type 0 where
  Committed : (tables : Database) → (told : Reply) → Outcome
  RolledBack : (item : ℕ) → Outcome

-- an order whose first missing item is this, or that has none
abbrev pub order_unless : Option ℕ → Database → NewOrderInput → Outcome
order_unless None t x = Committed (after_new_order t x) (reply.NewOrder (new_order_reply t x))
order_unless (Some item) t x = RolledBack item

-- a transaction on these tables
abbrev pub apply : Database → Input → Outcome
apply t (input.Payment x) = Committed (after_payment t x) (reply.Payment (payment_reply t x))
apply t (input.NewOrder x) = order_unless (first_missing t x.lines) t x
apply t (input.Delivery x) = Committed (after_delivery t x) (reply.Delivery (delivery_reply t x))
apply t (input.OrderStatus x) = Committed t (reply.OrderStatus (order_status_reply t x))
apply t (input.StockLevel x) = Committed t (reply.StockLevel (stock_level_reply t x))

-- a transaction's order number is within the order cap, where it makes an order
abbrev pub HasOrderNumber : Database → Input → Type 0
HasOrderNumber t (input.Payment x) = Unit {0}
HasOrderNumber t (input.NewOrder x) = HasNumber t x
HasOrderNumber t (input.Delivery x) = Unit {0}
HasOrderNumber t (input.OrderStatus x) = Unit {0}
HasOrderNumber t (input.StockLevel x) = Unit {0}

-- the tables that an outcome leaves, of those before it: a transaction that is rolled back changes nothing
abbrev pub left_by : Database → Outcome → Database
left_by t (Committed tables told) = tables
left_by t (RolledBack item) = t

-- the tables after a transaction
abbrev pub after : Database → Input → Database
after t x = left_by t (apply t x)

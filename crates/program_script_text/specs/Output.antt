-- The text of an answer.
use Rattle.std.specs.Prelude.{ℕ, cond, Option, Some, None, List, [], ◌∷◌, ◌++◌, length, map, codes}
use Rattle.std.specs.Fmt.{decimal}
use Rattle.std.specs.List.{join_with_byte, flat_map}
use Rattle.money.specs.Money.{money_text}
use Rattle.money.specs.Refusal.{refusal_number}
use Rattle.money.specs.declared.refusal.Refusal.{Refusal}
use Rattle.money.specs.declared.refusal.Refusal.TheVariants.{ItemNotValid}
use Rattle.tables.specs.declared.keys.CustomerKey.{CustomerKey}
use Rattle.tables.specs.declared.keys.StockKey.{StockKey}
use Rattle.tables.specs.declared.keys.OrderKey.{OrderKey}
use Rattle.tables.specs.declared.rows.Customer.{Customer as CustomerRow}
use Rattle.tables.specs.declared.rows.Stock.{Stock as StockRow}
use Rattle.tables.specs.declared.rows.Order.{Order as OrderRow}
use Rattle.tables.specs.declared.new_order.SuppliedLine.{SuppliedLine}
use Rattle.tables.specs.declared.new_order.NewOrderReply.{NewOrderReply}
use Rattle.tables.specs.declared.delivery.DeliveredOrder.{DeliveredOrder}
use Rattle.tables.specs.declared.rows.OrderLine.{OrderLine as OrderLineRow}
use Rattle.tables.specs.declared.order_status.LastOrder.{LastOrder}
use Rattle.tables.specs.declared.order_status.OrderStatusReply.{OrderStatusReply}
use Rattle.tables.specs.declared.stock_level.StockLevelReply.{StockLevelReply}
use Rattle.tables.specs.declared.delivery.DeliveryReply.{DeliveryReply}
use Rattle.tables.specs.declared.payment.PaymentReply.{PaymentReply}
use Rattle.tables.specs.declared.reply.Reply.{Reply}
use Rattle.tables.specs.declared.reply.Reply.TheVariants as reply
use Rattle.program_script_text.specs.declared.shown.ShownRow.{ShownRow}
use Rattle.program_script_text.specs.declared.shown.ShownRow.TheVariants as shown
use Rattle.program_script_text.specs.declared.answer.Answer.{Answer}
use Rattle.program_script_text.specs.declared.answer.Answer.TheVariants as answer

-- the item that a refusal names
abbrev pub refused_item : Refusal → Option ℕ
refused_item (ItemNotValid item) = Some item
refused_item _ = None

-- the words that name it
abbrev pub item_words : Option ℕ → List (List ℕ)
item_words (Some item) = codes "item" ∷ decimal item ∷ []
item_words None = []

-- the words of a refused line
abbrev pub refused_words : Refusal → ℕ → List (List ℕ)
refused_words refusal line =
    decimal (refusal_number refusal) ∷ codes "line" ∷ decimal line ∷ item_words (refused_item refusal)

-- the words of a row of CUSTOMER
abbrev pub shown_customer_words : CustomerKey → CustomerRow → List (List ℕ)
shown_customer_words key row =
    codes "customer" ∷ decimal key.warehouse ∷ decimal key.district ∷ decimal key.customer
    ∷ codes "balance" ∷ money_text row.balance ∷ codes "paid" ∷ money_text row.paid
    ∷ codes "payments" ∷ decimal row.payments ∷ codes "deliveries" ∷ decimal row.deliveries ∷ []

-- the words of a row of STOCK
abbrev pub shown_stock_words : StockKey → StockRow → List (List ℕ)
shown_stock_words key row =
    codes "stock" ∷ decimal key.warehouse ∷ decimal key.item
    ∷ codes "quantity" ∷ decimal row.quantity ∷ codes "ytd" ∷ decimal row.year_to_date
    ∷ codes "orders" ∷ decimal row.orders ∷ codes "remote" ∷ decimal row.remote_orders ∷ []

-- the word of a column that may be null
abbrev pub nullable_word : Option ℕ → List ℕ
nullable_word (Some n) = decimal n
nullable_word None = codes "-"

-- the words of a row of ORDER, or of none, behind the words of its key
abbrev pub order_row_words : Option OrderRow → List (List ℕ)
order_row_words (Some row) =
    codes "customer" ∷ decimal row.customer ∷ codes "carrier" ∷ nullable_word row.carrier
    ∷ codes "lines" ∷ decimal row.line_count ∷ codes "local" ∷ decimal (cond row.all_local 1 0) ∷ []
order_row_words None = codes "none" ∷ []

abbrev pub shown_order_words : OrderKey → Option OrderRow → List (List ℕ)
shown_order_words key row =
    codes "order" ∷ decimal key.warehouse ∷ decimal key.district ∷ decimal key.order ∷ order_row_words row

-- the word of a line of an order: its item, its supplying warehouse, the stock after it, and its amount
abbrev pub supplied_word : SuppliedLine → List ℕ
supplied_word l =
    join_with_byte 58 (decimal l.item ∷ decimal l.supply_warehouse ∷ decimal l.stock ∷ money_text l.amount ∷ [])

-- those words, each behind a space
abbrev pub supplied_text : List SuppliedLine → List ℕ
supplied_text ls = flat_map (λ l. 32 ∷ supplied_word l) ls

-- the words of a New-Order's reply: of the order, and of its lines
abbrev pub head_words : NewOrderReply → List (List ℕ)
head_words reply =
    codes "neworder" ∷ decimal reply.warehouse ∷ decimal reply.district ∷ decimal reply.order
    ∷ codes "customer" ∷ decimal reply.customer ∷ codes "lines" ∷ money_text reply.amount
    ∷ codes "total" ∷ money_text reply.total ∷ []

abbrev pub new_order_reply_words : NewOrderReply → List (List ℕ)
new_order_reply_words reply = head_words reply ++ map supplied_word reply.lines

-- the word of a district: its number, and the order delivered there, if one was
abbrev pub delivered_word : DeliveredOrder → List ℕ
delivered_word o = join_with_byte 58 (decimal o.district ∷ nullable_word o.order ∷ [])

-- those words, each behind a space
abbrev pub delivered_text : List DeliveredOrder → List ℕ
delivered_text os = flat_map (λ o. 32 ∷ delivered_word o) os

-- the words of a Delivery's reply
abbrev pub delivery_words : DeliveryReply → List (List ℕ)
delivery_words reply = codes "delivery" ∷ decimal reply.warehouse ∷ map delivered_word reply.orders

-- the word of a line of a customer's last order: its item, its supplying warehouse, its quantity, its amount, and when
-- it was delivered
abbrev pub told_word : OrderLineRow → List ℕ
told_word l =
    join_with_byte 58 (decimal l.item ∷ decimal l.supply_warehouse ∷ decimal l.quantity ∷ money_text l.amount
    ∷ nullable_word l.delivery_date ∷ [])

-- those words, each behind a space
abbrev pub told_text : List OrderLineRow → List ℕ
told_text ls = flat_map (λ l. 32 ∷ told_word l) ls

-- the words of an Order-Status's reply: of the customer, and of its last order with its lines, or of none
abbrev pub balance_words : OrderStatusReply → List (List ℕ)
balance_words reply =
    codes "status" ∷ decimal reply.warehouse ∷ decimal reply.district ∷ decimal reply.customer
    ∷ codes "balance" ∷ money_text reply.balance ∷ codes "order" ∷ []

abbrev pub last_words : OrderStatusReply → LastOrder → List (List ℕ)
last_words reply o =
    balance_words reply
    ++ decimal o.order ∷ codes "date" ∷ decimal o.entry_date ∷ codes "carrier" ∷ nullable_word o.carrier ∷ []

abbrev pub status_words : OrderStatusReply → Option LastOrder → List (List ℕ)
status_words reply (Some o) = last_words reply o ++ map told_word o.lines
status_words reply None = balance_words reply ++ codes "none" ∷ []

-- the words of a Stock-Level's reply
abbrev pub level_words : StockLevelReply → List (List ℕ)
level_words reply =
    codes "level" ∷ decimal reply.warehouse ∷ decimal reply.district
    ∷ codes "threshold" ∷ decimal reply.threshold ∷ codes "low" ∷ decimal reply.low ∷ []

-- the words of a Payment's reply
abbrev pub payment_words : PaymentReply → List (List ℕ)
payment_words reply =
    codes "payment" ∷ decimal reply.warehouse ∷ decimal reply.district
    ∷ codes "customer" ∷ decimal reply.customer_warehouse ∷ decimal reply.customer_district ∷ decimal reply.customer
    ∷ codes "balance" ∷ money_text reply.balance ∷ []

-- the words of a reply
abbrev pub reply_words : Reply → List (List ℕ)
reply_words (reply.Payment r) = payment_words r
reply_words (reply.NewOrder r) = new_order_reply_words r
reply_words (reply.Delivery r) = delivery_words r
reply_words (reply.OrderStatus r) = status_words r r.order
reply_words (reply.StockLevel r) = level_words r

-- the words of a row with its key
abbrev pub row_words : ShownRow → List (List ℕ)
row_words (shown.Warehouse w row) = codes "warehouse" ∷ decimal w ∷ codes "ytd" ∷ money_text row.year_to_date ∷ []
row_words (shown.District key row) =
    codes "district" ∷ decimal key.warehouse ∷ decimal key.district
    ∷ codes "ytd" ∷ money_text row.year_to_date ∷ codes "next" ∷ decimal row.next_order ∷ []
row_words (shown.Customer key row) = shown_customer_words key row
row_words (shown.CustomerData key text) =
    codes "data" ∷ decimal key.warehouse ∷ decimal key.district ∷ decimal key.customer ∷ decimal (length text) ∷ text ∷ []
row_words (shown.Stock key row) = shown_stock_words key row
row_words (shown.Order key row) = shown_order_words key row

-- the words of an answer
abbrev pub answer_words : Answer → List (List ℕ)
answer_words (answer.Reply r) = reply_words r
answer_words (answer.Row row) = row_words row
answer_words (answer.Refused refusal line) = refused_words refusal line

-- an answer, without its line feed
abbrev pub answer_text : Answer → List ℕ
answer_text answer = join_with_byte 32 (answer_words answer)

-- How a Delivery ends a district (TPC-C 2.7.4.2): the order that it takes, its customer, and the next order that waits.
use Rattle.std.specs.Prelude.{◌≡◌, ℕ, ◌+◌, ℤ, ◌+ℤ◌, Option, None, Some, [], ◌∷◌}
use Rattle.std.specs.Option.{option_map}
use Rattle.std.specs.FinMap.{get}
use Rattle.tables.specs.Database.{Database}
use Rattle.tables.specs.Conditions.{Condition2At, Condition3At}
use Rattle.tables.specs.Rows.{order_words, number_words}
use Rattle.tables.specs.Delivery.{waiting, carried}
use Rattle.tables.specs.declared.keys.CustomerKey.{CustomerKey}
use Rattle.tables.specs.declared.keys.DistrictKey.{DistrictKey}
use Rattle.tables.specs.declared.keys.OrderKey.{OrderKey}
use Rattle.tables.specs.declared.rows.Order.{Order}
use Rattle.tables.specs.declared.delivery.DeliveryInput.{DeliveryInput}
use Rattle.tables.specs.declared.records.RecordKey.TheVariants as key
use Rattle.readset.specs.Changes.{Changes}
use Rattle.delivery.specs.Steps.{next_home}
use Rattle.rows.specs.Columns.{customer_columns, customer_columns_words}
use Rattle.rows.specs.declared.columns.CustomerColumns.{CustomerColumns}

-- order o waits longest in the next district, where conditions 2 and 3 hold
pub record Waits (t : Database) (x : DeliveryInput) (n o : ℕ) : Type 0 where
  pub first : waiting t (next_home x n) ≡ Some o
  pub condition_2 : Condition2At t (next_home x n)
  pub condition_3 : Condition3At t (next_home x n)

-- C_BALANCE raised by a sum, and C_DELIVERY_CNT by 1
abbrev pub credited_columns : ℤ → CustomerColumns → CustomerColumns
credited_columns sum c =
    record { balance = c.balance +ℤ sum; paid = c.paid; payments = c.payments; deliveries = c.deliveries + 1 }

-- these are the customer's columns, raised by this sum
abbrev pub IsCredited : CustomerKey → ℤ → CustomerColumns → Database → Type 0
IsCredited k sum columns t =
    (c : CustomerColumns) × (option_map customer_columns (get t.customers k) ≡ Some c) × (columns ≡ credited_columns sum c)

-- the customer of an order
abbrev pub buyer_of : OrderKey → Order → CustomerKey
buyer_of k order = record { warehouse = k.warehouse; district = k.district; customer = order.customer }

-- what changes at the end: the NEW-ORDER row goes, the order has its carrier, and the customer's row
abbrev pub ending_changes : DeliveryInput → OrderKey → Order → CustomerColumns → Changes
ending_changes x k order customer =
    (key.NewOrder k, None) ∷ (key.Order k, Some (order_words (carried x order)))
    ∷ (key.Customer (buyer_of k order), Some (customer_columns_words customer)) ∷ []

-- what changes in OLDEST, where this order was taken: its number becomes the next
abbrev pub oldest_changes : DistrictKey → Option ℕ → Changes
oldest_changes k None = []
oldest_changes k (Some o) = (key.Oldest k, Some (number_words (o + 1))) ∷ []

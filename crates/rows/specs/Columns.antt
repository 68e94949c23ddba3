-- The columns that records hold: those of a row that change, with the words that they stand in and their ranges.
use Rattle.std.specs.Prelude.{ℕ, ◌+◌, ◌≤◌, cond, Option, Some, List, [], ◌∷◌}
use Rattle.std.specs.Option.{unwrap_or}
use Rattle.tables.specs.Sizes.{Sizes, IsBetween, IsNumber}
use Rattle.tables.specs.Database.{Database}
use Rattle.tables.specs.Rows.{money_word, payload_of, number_words, oldest, last}
use Rattle.tables.specs.WellFormed.{IsMoney, IsCount, IsOrderRow}
use Rattle.tables.specs.declared.limits.TheConstants.{MIN_STOCK, MAX_STOCK}
use Rattle.tables.specs.declared.keys.DistrictKey.{DistrictKey}
use Rattle.tables.specs.declared.keys.CustomerKey.{CustomerKey}
use Rattle.tables.specs.declared.rows.Warehouse.{Warehouse}
use Rattle.tables.specs.declared.rows.District.{District}
use Rattle.tables.specs.declared.rows.Customer.{Customer}
use Rattle.tables.specs.declared.rows.Order.{Order}
use Rattle.tables.specs.declared.rows.OrderLine.{OrderLine}
use Rattle.tables.specs.declared.rows.Stock.{Stock}
use Rattle.rows.specs.declared.columns.WarehouseColumns.{WarehouseColumns}
use Rattle.rows.specs.declared.columns.DistrictColumns.{DistrictColumns}
use Rattle.rows.specs.declared.columns.CustomerColumns.{CustomerColumns}
use Rattle.rows.specs.declared.index.Oldest.{Oldest}
use Rattle.rows.specs.declared.index.Last.{Last}

abbrev pub warehouse_columns : Warehouse → WarehouseColumns
warehouse_columns r = record { year_to_date = r.year_to_date }

abbrev pub warehouse_columns_words : WarehouseColumns → List ℕ
warehouse_columns_words c = payload_of (money_word c.year_to_date ∷ [])

abbrev pub AreWarehouseColumns : WarehouseColumns → Type 0
AreWarehouseColumns c = IsMoney c.year_to_date

abbrev pub district_columns : District → DistrictColumns
district_columns r = record { year_to_date = r.year_to_date; next_order = r.next_order }

abbrev pub district_columns_words : DistrictColumns → List ℕ
district_columns_words c = payload_of (money_word c.year_to_date ∷ c.next_order ∷ [])

pub record AreDistrictColumns (s : Sizes) (c : DistrictColumns) : Type 0 where
  pub year_to_date : IsMoney c.year_to_date
  pub next_order : IsNumber (s.orders + 1) c.next_order

abbrev pub customer_columns : Customer → CustomerColumns
customer_columns r =
    record { balance = r.balance; paid = r.paid; payments = r.payments; deliveries = r.deliveries }

abbrev pub customer_columns_words : CustomerColumns → List ℕ
customer_columns_words c =
    payload_of (money_word c.balance ∷ money_word c.paid ∷ c.payments ∷ c.deliveries ∷ [])

pub record AreCustomerColumns (c : CustomerColumns) : Type 0 where
  pub balance : IsMoney c.balance
  pub paid : IsMoney c.paid
  pub payments : IsCount c.payments
  pub deliveries : IsCount c.deliveries

-- an order within its ranges, of a customer of the scale
pub record IsOrderOfScale (s : Sizes) (r : Order) : Type 0 where
  pub row : IsOrderRow r
  pub customer : IsNumber s.customers r.customer

-- the records of the indices: the number of an order or of the next one, and of an order or 0
abbrev pub oldest_at : Database → DistrictKey → Option Oldest
oldest_at t k = Some (record { order = oldest t k })

abbrev pub words_of_oldest : Oldest → List ℕ
words_of_oldest r = number_words r.order

abbrev pub IsOldestOfScale : Sizes → Oldest → Type 0
IsOldestOfScale s r = IsNumber (s.orders + 1) r.order

abbrev pub last_at : Database → CustomerKey → Option Last
last_at t k = Some (record { order = last t k })

abbrev pub words_of_last : Last → List ℕ
words_of_last r = number_words r.order

abbrev pub IsLastOfScale : Sizes → Last → Type 0
IsLastOfScale s r = r.order ≤ s.orders

-- the words of the columns of an order and of a line, without what stands past them
abbrev pub order_columns : Order → List ℕ
order_columns r = r.customer ∷ r.entry_date ∷ unwrap_or r.carrier 0 ∷ r.line_count ∷ cond r.all_local 1 0 ∷ []

abbrev pub line_columns : OrderLine → List ℕ
line_columns r =
    r.item ∷ r.supply_warehouse ∷ unwrap_or r.delivery_date 0 ∷ r.quantity ∷ money_word r.amount ∷ []

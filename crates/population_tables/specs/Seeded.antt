-- The rows of a seeded population (TPC-C 4.3.3.1): which values a drawn column may have. What isn't drawn is as in the
-- plain population.
use Rattle.std.specs.Prelude.{◌≡◌, ℕ, ◌+◌, ◌-◌, ◌*◌, ◌<◌, ◌≤◌, pos, neg_ℤ, ◌≤ℤ◌, true, not, cond, is_none, Some, None}
use Rattle.std.specs.Option.{ForSome}
use Rattle.tables.specs.Sizes.{Sizes, IsBetween, IsNumber}
use Rattle.tables.specs.declared.limits.TheConstants.{LAST_NAMES, MAX_CARRIER, MIN_ORDER_LINES, MAX_ORDER_LINES}
use Rattle.tables.specs.declared.limits.TheConstants.{MAX_LINE_AMOUNT, MAX_PRICE}
use Rattle.tables.specs.declared.rows.Warehouse.{Warehouse}
use Rattle.tables.specs.declared.rows.District.{District}
use Rattle.tables.specs.declared.rows.Customer.{Customer}
use Rattle.tables.specs.declared.rows.Order.{Order}
use Rattle.tables.specs.declared.rows.OrderLine.{OrderLine}
use Rattle.tables.specs.declared.rows.Item.{Item}
use Rattle.tables.specs.declared.rows.Stock.{Stock}
use Rattle.population_tables.specs.Plain.{is_delivered}

-- I_PRICE from 1.00 to 100.00
pub record IsSeededItem (r : Item) : Type 0 where
  pub at_least : pos 100 ≤ℤ r.price
  pub at_most : r.price ≤ℤ MAX_PRICE

-- W_TAX up to 0.2000
pub record IsSeededWarehouse (s : Sizes) (r : Warehouse) : Type 0 where
  pub tax : r.tax ≤ 2000
  pub year_to_date : r.year_to_date ≡ pos (s.districts * (s.customers * 1000))

-- S_QUANTITY from 10 to 100
pub record IsSeededStock (r : Stock) : Type 0 where
  pub quantity : IsBetween 10 100 r.quantity
  pub year_to_date : r.year_to_date ≡ 0
  pub orders : r.orders ≡ 0
  pub remote_orders : r.remote_orders ≡ 0

-- D_TAX up to 0.2000
pub record IsSeededDistrict (s : Sizes) (r : District) : Type 0 where
  pub tax : r.tax ≤ 2000
  pub year_to_date : r.year_to_date ≡ pos (s.customers * 1000)
  pub next_order : r.next_order ≡ s.customers + 1

-- customer c: the first thousand of a district have a last name each, the others any, and C_DISCOUNT is up to 0.5000
pub record IsSeededCustomer (c : ℕ) (r : Customer) : Type 0 where
  pub first_name : r.first_name ≤ 9999
  pub last_name : r.last_name < LAST_NAMES
  pub own_name : c ≤ LAST_NAMES → r.last_name ≡ c - 1
  pub discount : r.discount ≤ 5000
  pub balance : r.balance ≡ neg_ℤ (pos 1000)
  pub paid : r.paid ≡ pos 1000
  pub payments : r.payments ≡ 1
  pub deliveries : r.deliveries ≡ 0

-- order o: of any customer, with a carrier exactly where it is delivered, and 5 to 15 lines
pub record IsSeededOrder (s : Sizes) (o : ℕ) (r : Order) : Type 0 where
  pub customer : IsNumber s.customers r.customer
  pub entry_date : r.entry_date ≡ 1
  pub delivered : is_none r.carrier ≡ not (is_delivered s o)
  pub carrier : ForSome r.carrier (λ n. IsNumber MAX_CARRIER n)
  pub line_count : IsBetween MIN_ORDER_LINES MAX_ORDER_LINES r.line_count
  pub all_local : r.all_local ≡ true

-- a line of order o in warehouse w: 5 of any item. It costs nothing where the order is delivered, and else up to
-- 9,999.99
pub record IsSeededLine (s : Sizes) (w o : ℕ) (r : OrderLine) : Type 0 where
  pub item : IsNumber s.items r.item
  pub supply_warehouse : r.supply_warehouse ≡ w
  pub delivery_date : r.delivery_date ≡ cond (is_delivered s o) (Some 1) None
  pub quantity : r.quantity ≡ 5
  pub free : is_delivered s o ≡ true → r.amount ≡ pos 0
  pub at_least : pos 0 ≤ℤ r.amount
  pub at_most : r.amount ≤ℤ MAX_LINE_AMOUNT

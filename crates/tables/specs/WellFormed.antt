-- Which tables are well-formed: keys within the scale, columns within their ranges, and no row that names a missing
-- one.
use Rattle.std.specs.Prelude.{◌≡◌, ℕ, ◌+◌, ◌*◌, ◌<◌, ◌≤◌, ℤ, pos, neg_ℤ, ◌+ℤ◌, ◌-ℤ◌, ◌≤ℤ◌, Some, IsSome, All}
use Rattle.std.specs.Option.{ForSome}
use Rattle.std.specs.FinMap.{get}
use Rattle.customer_data.specs.Text.{IsData}
use Rattle.tables.specs.Sizes.{Sizes, IsBetween, IsNumber}
use Rattle.tables.specs.Keys.{IsWarehouseKey, IsDistrictKey, IsCustomerKey, IsOrderKey, IsLineKey, IsItemKey}
use Rattle.tables.specs.Keys.{IsStockKey, order_of}
use Rattle.tables.specs.Maps.{RowsAt, RowsWithin, EachRow}
use Rattle.tables.specs.Names.{names, customer_named}
use Rattle.tables.specs.Database.{Database}
use Rattle.money.specs.declared.cents.TheConstants.{MAX_MONEY}
use Rattle.tables.specs.declared.limits.TheConstants.{MAX_DATE, MAX_COUNT, MAX_MONEY_STEP, MAX_COUNT_STEP, MIN_PAYMENT}
use Rattle.tables.specs.declared.limits.TheConstants.{MAX_PAYMENT, MIN_ORDER_LINES, MAX_ORDER_LINES, MAX_QUANTITY}
use Rattle.tables.specs.declared.limits.TheConstants.{MAX_LINE_AMOUNT, MAX_CARRIER, MIN_STOCK, MAX_STOCK, MAX_PRICE}
use Rattle.tables.specs.declared.limits.TheConstants.{LAST_NAMES}
use Rattle.tables.specs.declared.keys.DistrictKey.{DistrictKey}
use Rattle.tables.specs.declared.keys.OrderKey.{OrderKey}
use Rattle.tables.specs.declared.keys.CustomerKey.{CustomerKey}
use Rattle.tables.specs.declared.rows.District.{District}
use Rattle.tables.specs.declared.rows.Customer.{Customer}
use Rattle.tables.specs.declared.rows.History.{History}
use Rattle.tables.specs.declared.rows.Order.{Order}
use Rattle.tables.specs.declared.rows.OrderLine.{OrderLine}
use Rattle.tables.specs.declared.rows.Item.{Item}
use Rattle.tables.specs.declared.rows.Stock.{Stock}

-- within 10,000,000,000,000 cents of zero
abbrev pub IsMoney : ℤ → Type 0
IsMoney z = (neg_ℤ MAX_MONEY ≤ℤ z) × (z ≤ℤ MAX_MONEY)

-- at most 1,000,000,000
abbrev pub IsCount : ℕ → Type 0
IsCount c = c ≤ MAX_COUNT

-- a date that isn't null
abbrev pub IsDate : ℕ → Type 0
IsDate n = IsBetween 1 MAX_DATE n

pub record IsDistrictRow (s : Sizes) (r : District) : Type 0 where
  pub year_to_date : IsMoney r.year_to_date
  pub next_order : IsNumber (s.orders + 1) r.next_order

pub record IsCustomerRow (r : Customer) : Type 0 where
  pub balance : IsMoney r.balance
  pub paid : IsMoney r.paid
  pub payments : IsCount r.payments
  pub deliveries : IsCount r.deliveries

pub record IsHistoryRow (s : Sizes) (r : History) : Type 0 where
  pub customer : IsNumber s.customers r.customer
  pub customer_district : IsNumber s.districts r.customer_district
  pub customer_warehouse : IsNumber s.warehouses r.customer_warehouse
  pub district : IsNumber s.districts r.district
  pub warehouse : IsNumber s.warehouses r.warehouse
  pub date : IsDate r.date
  pub at_least : MIN_PAYMENT ≤ℤ r.amount
  pub at_most : r.amount ≤ℤ MAX_PAYMENT

-- O_C_ID is within the scale since the order names a customer (order_customers, below)
pub record IsOrderRow (r : Order) : Type 0 where
  pub entry_date : IsDate r.entry_date
  pub carrier : ForSome r.carrier (λ n. IsNumber MAX_CARRIER n)
  pub line_count : IsBetween MIN_ORDER_LINES MAX_ORDER_LINES r.line_count

pub record IsLineRow (s : Sizes) (r : OrderLine) : Type 0 where
  pub item : IsItemKey s r.item
  pub supply_warehouse : IsWarehouseKey s r.supply_warehouse
  pub delivery_date : ForSome r.delivery_date (λ n. IsDate n)
  pub quantity : IsNumber MAX_QUANTITY r.quantity
  pub at_least : pos 0 ≤ℤ r.amount
  pub at_most : r.amount ≤ℤ MAX_LINE_AMOUNT

-- a price is a limit of this engine: an order's sum then stays within what its total takes
pub record IsItemRow (r : Item) : Type 0 where
  pub at_least : pos 0 ≤ℤ r.price
  pub at_most : r.price ≤ℤ MAX_PRICE

pub record IsStockRow (r : Stock) : Type 0 where
  pub quantity : IsBetween MIN_STOCK MAX_STOCK r.quantity
  pub year_to_date : IsCount r.year_to_date
  pub orders : IsCount r.orders
  pub remote_orders : IsCount r.remote_orders

-- the customer that an order names
abbrev pub orderer : OrderKey → Order → CustomerKey
orderer k r = record { warehouse = k.warehouse; district = k.district; customer = r.customer }

-- each last name below the lesser of the number of customers and 1,000 is somebody's in each district (TPC-C 4.3.3.1)
abbrev pub HasLastNames : Database → Type 0
HasLastNames t = (d : DistrictKey) → IsDistrictKey t.scale d → (n : ℕ) → n < t.scale.customers → n < LAST_NAMES
    → IsSome (customer_named (names t.customers) d n)

pub record IsWellFormed (t : Database) : Type 0 where
  -- a row of WAREHOUSE, DISTRICT, CUSTOMER and STOCK for each key of the scale, and C_DATA of each customer
  pub warehouses : RowsAt (IsWarehouseKey t.scale) t.warehouses
  pub districts : RowsAt (IsDistrictKey t.scale) t.districts
  pub customers : RowsAt (IsCustomerKey t.scale) t.customers
  pub texts : RowsAt (IsCustomerKey t.scale) t.texts
  pub stock : RowsAt (IsStockKey t.scale) t.stock
  -- the other keys within the scale
  pub new_orders : RowsWithin (IsOrderKey t.scale) t.new_orders
  pub orders : RowsWithin (IsOrderKey t.scale) t.orders
  pub lines : RowsWithin (IsLineKey t.scale) t.lines
  -- ITEM may lack an item of the scale: an order of it is rolled back
  pub items : RowsWithin (IsItemKey t.scale) t.items
  -- columns within their ranges
  pub warehouse_rows : EachRow (λ k r. IsMoney r.year_to_date) t.warehouses
  pub district_rows : EachRow (λ k r. IsDistrictRow t.scale r) t.districts
  pub customer_rows : EachRow (λ k r. IsCustomerRow r) t.customers
  pub text_rows : EachRow (λ k text. IsData text) t.texts
  pub history_rows : All (IsHistoryRow t.scale) t.history
  pub order_rows : EachRow (λ k r. IsOrderRow r) t.orders
  pub line_rows : EachRow (λ k r. IsLineRow t.scale r) t.lines
  pub item_rows : EachRow (λ k r. IsItemRow r) t.items
  pub stock_rows : EachRow (λ k r. IsStockRow r) t.stock
  -- every order names a customer, every NEW-ORDER row and every line has its order, and a line's number is at most its
  -- order's O_OL_CNT
  pub order_customers : EachRow (λ k r. IsSome (get t.customers (orderer k r))) t.orders
  pub new_order_orders : (k : OrderKey) → IsSome (get t.new_orders k) → IsSome (get t.orders k)
  pub line_orders : EachRow (λ k r. (order : Order) × (get t.orders (order_of k) ≡ Some order)
      × (k.line ≤ order.line_count)) t.lines
  -- each last name that a terminal may ask for is somebody's
  pub last_names : HasLastNames t

-- a column that stays within so many cents of zero, or at most so large a count, for n more commits, of which each moves
-- money by at most 15,000,000 cents and raises a count by at most 150
abbrev pub IsMoneyTo : ℤ → ℕ → ℤ → Type 0
IsMoneyTo most n z = (neg_ℤ most ≤ℤ (z -ℤ pos (MAX_MONEY_STEP * n))) × ((z +ℤ pos (MAX_MONEY_STEP * n)) ≤ℤ most)

abbrev pub IsCountTo : ℕ → ℕ → ℕ → Type 0
IsCountTo most n c = c + MAX_COUNT_STEP * n ≤ most

-- so for each column that commits move
pub record HasRoomTo (money : ℤ) (count n : ℕ) (t : Database) : Type 0 where
  pub warehouses : EachRow (λ k r. IsMoneyTo money n r.year_to_date) t.warehouses
  pub districts : EachRow (λ k r. IsMoneyTo money n r.year_to_date) t.districts
  pub balances : EachRow (λ k r. IsMoneyTo money n r.balance) t.customers
  pub paid : EachRow (λ k r. IsMoneyTo money n r.paid) t.customers
  pub payments : EachRow (λ k r. IsCountTo count n r.payments) t.customers
  pub deliveries : EachRow (λ k r. IsCountTo count n r.deliveries) t.customers
  pub supplied : EachRow (λ k r. IsCountTo count n r.year_to_date) t.stock
  pub orders : EachRow (λ k r. IsCountTo count n r.orders) t.stock
  pub remote_orders : EachRow (λ k r. IsCountTo count n r.remote_orders) t.stock

-- a column that stays within its range for n more commits
abbrev pub IsMoneyFor : ℕ → ℤ → Type 0
IsMoneyFor n z = IsMoneyTo MAX_MONEY n z

abbrev pub IsCountFor : ℕ → ℕ → Type 0
IsCountFor n c = IsCountTo MAX_COUNT n c

-- the columns that commits move stay within their ranges for n more commits
abbrev pub HasRoom : ℕ → Database → Type 0
HasRoom n t = HasRoomTo MAX_MONEY MAX_COUNT n t

-- Which tables so many commits may have left of a first population: how far its columns are from zero at most, and
-- that rows belong to orders.
use Rattle.std.specs.Prelude.{◌≡◌, ℕ, ◌+◌, ◌*◌, ◌≤◌, ℤ, pos, neg_ℤ, ◌≤ℤ◌, Some, IsSome}
use Rattle.std.specs.FinMap.{get}
use Rattle.tables.specs.Keys.{order_of}
use Rattle.tables.specs.Maps.{EachRow}
use Rattle.tables.specs.Database.{Database}
use Rattle.tables.specs.declared.limits.TheConstants.{MAX_MONEY_STEP, MAX_COUNT_STEP, MAX_FIRST_MONEY, MAX_FIRST_COUNT}
use Rattle.tables.specs.declared.rows.Customer.{Customer}
use Rattle.tables.specs.declared.rows.Order.{Order}
use Rattle.tables.specs.declared.rows.Stock.{Stock}

-- so many cents from zero at most
abbrev pub IsNear : ℕ → ℤ → Type 0
IsNear bound z = (neg_ℤ (pos bound) ≤ℤ z) × (z ≤ℤ pos bound)

pub record IsCustomerNear (money count : ℕ) (r : Customer) : Type 0 where
  pub balance : IsNear money r.balance
  pub paid : IsNear money r.paid
  pub payments : r.payments ≤ count
  pub deliveries : r.deliveries ≤ count

pub record IsStockNear (count : ℕ) (r : Stock) : Type 0 where
  pub year_to_date : r.year_to_date ≤ count
  pub orders : r.orders ≤ count
  pub remote_orders : r.remote_orders ≤ count

-- each column that commits move
pub record AreNear (money count : ℕ) (t : Database) : Type 0 where
  pub warehouses : EachRow (λ k r. IsNear money r.year_to_date) t.warehouses
  pub districts : EachRow (λ k r. IsNear money r.year_to_date) t.districts
  pub customers : EachRow (λ k r. IsCustomerNear money count r) t.customers
  pub stock : EachRow (λ k r. IsStockNear count r) t.stock

-- how far n commits take money from zero at most, and how far up a count
abbrev pub money_by : ℕ → ℕ
money_by n = MAX_MONEY_STEP * n + MAX_FIRST_MONEY

abbrev pub count_by : ℕ → ℕ
count_by n = MAX_COUNT_STEP * n + MAX_FIRST_COUNT

-- in reach of n commits
abbrev pub IsInReach : ℕ → Database → Type 0
IsInReach n = AreNear (money_by n) (count_by n)

-- every NEW-ORDER row and every line belongs to an order, and a line's number is at most its order's O_OL_CNT
pub record BelongToOrders (t : Database) : Type 0 where
  pub new_orders : EachRow (λ k r. IsSome (get t.orders k)) t.new_orders
  pub lines : EachRow (λ k r. (order : Order) × (get t.orders (order_of k) ≡ Some order)
      × (k.line ≤ order.line_count)) t.lines

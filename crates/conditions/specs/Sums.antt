-- What the sums over tables are. No public clause cites them.
use Rattle.std.specs.Prelude.{◌≡◌, ◌==◌, ℕ}
use Rattle.std.specs.Ordering.{nat_cmp}
use Rattle.tables.specs.Keys.{district_cmp, customer_cmp, order_cmp, is_district, is_order}
use Rattle.tables.specs.Maps.{total, count}
use Rattle.tables.specs.OrderNumbers.{numbers_in}
use Rattle.tables.specs.Database.{Database}
use Rattle.tables.specs.Conditions.{line_counts, delivered_amount, paid_at_warehouse, paid_at_district}
use Rattle.tables.specs.Conditions.{paid_by_customer}
use Rattle.tables.specs.declared.keys.DistrictKey.{DistrictKey}
use Rattle.tables.specs.declared.keys.CustomerKey.{CustomerKey}
use Rattle.tables.specs.declared.keys.OrderKey.{OrderKey}
use Rattle.conditions_walks.specs.Amounts.{amount_at, AreBounded, share}
use Rattle.conditions.specs.Numbers.{numbers_at, AreNumbersOf}
use Rattle.conditions.specs.declared.lines.LineSums.{LineSums}
use Rattle.conditions.specs.declared.sums.HistorySums.{HistorySums}
use Rattle.conditions.specs.declared.sums.OrderSums.{OrderSums}
use Rattle.conditions.specs.declared.sums.Sums.{Sums}

-- each sum, by all groups
pub record AreOrderSumsOf (t : Database) (s : OrderSums) : Type 0 where
  pub orders : (k : DistrictKey) → AreNumbersOf (numbers_in k t.orders) (numbers_at s.orders k)
  pub new_orders : (k : DistrictKey) → AreNumbersOf (numbers_in k t.new_orders) (numbers_at s.new_orders k)
  pub line_counts : (k : DistrictKey) → amount_at district_cmp s.line_counts k ≡ line_counts t k

pub record AreLineSumsOf (t : Database) (s : LineSums) : Type 0 where
  pub districts : (k : DistrictKey)
      → amount_at district_cmp s.districts k ≡ count (λ j line. is_district j.warehouse j.district k) t.lines
  pub orders : (k : OrderKey)
      → amount_at order_cmp s.orders k ≡ count (λ j line. is_order j.warehouse j.district j.order k) t.lines
  pub delivered : (k : CustomerKey) → amount_at customer_cmp s.delivered k ≡ delivered_amount t k
  pub delivered_bound : AreBounded customer_cmp s.delivered

pub record AreHistorySumsOf (t : Database) (s : HistorySums) : Type 0 where
  pub warehouses : (w : ℕ) → amount_at nat_cmp s.warehouses w ≡ paid_at_warehouse t w
  pub districts : (k : DistrictKey) → amount_at district_cmp s.districts k ≡ paid_at_district t k
  pub customers : (k : CustomerKey) → amount_at customer_cmp s.customers k ≡ paid_by_customer t k
  pub customers_bound : AreBounded customer_cmp s.customers

pub record AreSumsOf (t : Database) (s : Sums) : Type 0 where
  pub districts : (w : ℕ) → amount_at nat_cmp s.districts w ≡ total (λ k r. share (k.warehouse == w) r.year_to_date)
      t.districts
  pub orders : AreOrderSumsOf t s.orders
  pub lines : AreLineSumsOf t s.lines
  pub history : AreHistorySumsOf t s.history

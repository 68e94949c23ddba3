-- Sums over ORDER-LINE under way. No public clause cites them.
use Rattle.std.specs.Prelude.{◌≡◌, ℕ, pos, ◌+ℤ◌}
use Rattle.std.specs.FinMap.{from_entries}
use Rattle.tables.specs.Keys.{district_cmp, customer_cmp, order_cmp, is_district, is_order}
use Rattle.tables.specs.Conditions.{is_line_of}
use Rattle.tables.specs.declared.keys.DistrictKey.{DistrictKey}
use Rattle.tables.specs.declared.keys.CustomerKey.{CustomerKey}
use Rattle.tables.specs.declared.keys.OrderKey.{OrderKey}
use Rattle.tables.specs.declared.keys.LineKey.{LineKey}
use Rattle.tables.specs.declared.rows.OrderLine.{OrderLine}
use Rattle.conditions_walks.specs.Amounts.{amount_at, AreBounded, share}
use Rattle.conditions_walks.specs.Running.{running_at, IsWithin}
use Rattle.conditions.specs.declared.lines.LinesUnderWay.{LinesUnderWay}
use Rattle.conditions.specs.declared.lines.LineSums.{LineSums}

-- none is further from 0 than n amounts of 64 bits
pub record AreLinesWithin (s : LinesUnderWay) (n : ℕ) : Type 0 where
  pub districts : IsWithin district_cmp s.districts n
  pub orders : IsWithin order_cmp s.orders n
  pub delivered : IsWithin customer_cmp s.delivered n

-- with what a line adds
pub record IsLineAdded (s s' : LinesUnderWay) (j : LineKey) (line : OrderLine) : Type 0 where
  pub districts : (k : DistrictKey)
      → running_at district_cmp s'.districts k
      ≡ running_at district_cmp s.districts k +ℤ share (is_district j.warehouse j.district k) (pos 1)
  pub orders : (k : OrderKey)
      → running_at order_cmp s'.orders k
      ≡ running_at order_cmp s.orders k +ℤ share (is_order j.warehouse j.district j.order k) (pos 1)
  pub delivered : (k : CustomerKey) → running_at customer_cmp s'.delivered k ≡ running_at customer_cmp s.delivered k
      +ℤ share (is_line_of (from_entries {R = order_cmp} s.customers.orders) k j line) line.amount
  pub customers : s'.customers ≡ s.customers

-- the sums, nothing held any more
pub record AreClosed (s : LinesUnderWay) (sums : LineSums) : Type 0 where
  pub districts : (k : DistrictKey) → amount_at district_cmp sums.districts k ≡ running_at district_cmp s.districts k
  pub orders : (k : OrderKey) → amount_at order_cmp sums.orders k ≡ running_at order_cmp s.orders k
  pub delivered : (k : CustomerKey) → amount_at customer_cmp sums.delivered k ≡ running_at customer_cmp s.delivered k
  pub delivered_bound : AreBounded customer_cmp sums.delivered

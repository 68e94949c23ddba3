-- The sums over ORDER-LINE, as a walk along it goes on.
use Rattle.std.proofs.Common.{◌≡◌, ℕ, ◌+◌, ◌-◌, ◌≤◌, ℤ, pos, ◌+ℤ◌, List, [], ◌∷◌, length}
use Rattle.std.proofs.Common.{refl, sym, ap, ◌∙◌, subst, arith}
use Rattle.std.specs.BTreeMap as tree
use Rattle.std.specs.FinMap.{from_entries}
use Rattle.tables.specs.Keys.{district_cmp, customer_cmp, order_cmp, line_cmp, is_district, is_order}
use Rattle.tables.specs.Maps.{sum_entries}
use Rattle.tables.specs.Database.{database}
use Rattle.tables.specs.Conditions.{is_line_of}
use Rattle.tables.specs.declared.Tables.{Tables}
use Rattle.tables.specs.declared.keys.DistrictKey.{DistrictKey}
use Rattle.tables.specs.declared.keys.CustomerKey.{CustomerKey}
use Rattle.tables.specs.declared.keys.OrderKey.{OrderKey}
use Rattle.tables.specs.declared.keys.LineKey.{LineKey}
use Rattle.tables.specs.declared.rows.Order.{Order}
use Rattle.tables.specs.declared.rows.OrderLine.{OrderLine}
use Rattle.tables.proofs.Orders.{exact_line}
use Rattle.tables.proofs.Totals.{total-view}
use Rattle.conditions_walks.specs.Amounts.{share}
use Rattle.conditions_walks.specs.Running.{running_at}
use Rattle.conditions.specs.Lines.{AreLinesWithin, IsLineAdded, AreClosed}
use Rattle.conditions.specs.Sums.{AreLineSumsOf}
use Rattle.conditions.specs.declared.lines.LinesUnderWay.{LinesUnderWay}
use Rattle.conditions.specs.declared.lines.LineSums.{LineSums}
use Rattle.conditions.specs.declared.shares.Delivered.{Delivered}
use Rattle.conditions_walks.proofs.Added.{within_weaker}
use Rattle.conditions.proofs.SumSteps.{sum_entries_none, sum_entries_more, sum_entries_all, none_passed}

-- what a line adds to the sum of a district, of an order, and of a customer
abbrev to_district : DistrictKey → LineKey → OrderLine → ℤ
to_district k j line = share (is_district j.warehouse j.district k) (pos 1)

abbrev to_order : OrderKey → LineKey → OrderLine → ℤ
to_order k j line = share (is_order j.warehouse j.district j.order k) (pos 1)

abbrev to_customer : List (OrderKey × Order) → CustomerKey → LineKey → OrderLine → ℤ
to_customer orders k j line = share (is_line_of (from_entries {R = order_cmp} orders) k j line) line.amount

-- how the sums stand where these lines are left
pub record AreUnderWay (rows : List (OrderKey × Order)) (all left : List (LineKey × OrderLine)) (s : LinesUnderWay)
    : Type 0 where
  pub districts : (k : DistrictKey)
      → running_at district_cmp s.districts k +ℤ sum_entries (to_district k) left ≡ sum_entries (to_district k) all
  pub orders : (k : OrderKey)
      → running_at order_cmp s.orders k +ℤ sum_entries (to_order k) left ≡ sum_entries (to_order k) all
  pub delivered : (k : CustomerKey)
      → running_at customer_cmp s.delivered k +ℤ sum_entries (to_customer rows k) left
      ≡ sum_entries (to_customer rows k) all
  pub customers : s.customers.orders ≡ rows
  pub among : length left ≤ length all
  pub within : AreLinesWithin s (length all - length left)

pub under_way_all : (orders : List (OrderKey × Order)) (all : List (LineKey × OrderLine)) (s : LinesUnderWay)
    → ((k : DistrictKey) → running_at district_cmp s.districts k ≡ pos 0)
    → ((k : OrderKey) → running_at order_cmp s.orders k ≡ pos 0)
    → ((k : CustomerKey) → running_at customer_cmp s.delivered k ≡ pos 0) → s.customers.orders ≡ orders → AreLinesWithin s 0
    → AreUnderWay orders all all s
under_way_all orders all s districts of_orders delivered customers within = record {
  districts = λ k. sum_entries_none _ (sum_entries (to_district k) all) (districts k);
  orders = λ k. sum_entries_none _ (sum_entries (to_order k) all) (of_orders k);
  delivered = λ k. sum_entries_none _ (sum_entries (to_customer orders k) all) (delivered k);
  customers = customers;
  among = omega arith;
  within = subst (AreLinesWithin s) (none_passed (length all)) within;
}

pub lines_within : (s : LinesUnderWay) (n m : ℕ) → n ≤ m → AreLinesWithin s n → AreLinesWithin s m
lines_within s n m le h = record {
  districts = within_weaker district_cmp s.districts n m le h.districts;
  orders = within_weaker order_cmp s.orders n m le h.orders;
  delivered = within_weaker customer_cmp s.delivered n m le h.delivered;
}

-- one line more
pub under_way_more : (orders : List (OrderKey × Order)) (all left rest : List (LineKey × OrderLine)) (j : LineKey)
    (line : OrderLine) (s s' : LinesUnderWay)
    → left ≡ (j, line) ∷ rest → AreUnderWay orders all left s → IsLineAdded s s' j line
    → ((n : ℕ) → AreLinesWithin s n → AreLinesWithin s' (n + 1))
    → AreUnderWay orders all rest s'
under_way_more orders all left rest j line s s' next before added within = record {
  districts = λ k. sum_entries_more (to_district k) all left rest j line _ _ _ next (before.districts k) refl
      (added.districts k);
  orders = λ k. sum_entries_more (to_order k) all left rest j line _ _ _ next (before.orders k) refl (added.orders k);
  delivered = λ k. sum_entries_more (to_customer orders k) all left rest j line _ _ _ next
      (before.delivered k) (ap (λ os. to_customer os k j line) before.customers) (added.delivered k);
  customers = ap (λ (by : Delivered). by.orders) added.customers ∙ before.customers;
  among = omega (arith, fewer, before.among);
  within = subst (AreLinesWithin s') (more (length all) (length left) (length rest) fewer before.among) (within _ before.within);
}
  where
    fewer : length left ≡ length rest + 1
    fewer = let more = ap length next in omega (arith, more)

    more : (n l r : ℕ) → l ≡ r + 1 → l ≤ n → (n - l) + 1 ≡ n - r
    more n l r is le = omega arith

-- and where none are left
pub line_sums : (tables : Tables) (left : List (LineKey × OrderLine)) (s : LinesUnderWay) (sums : LineSums)
    → tree.IsOrdered line_cmp tables.lines → left ≡ []
    → AreUnderWay tables.orders.entries tables.lines.entries left s → AreClosed s sums
    → AreLineSumsOf (database tables) sums
line_sums tables left s sums ordered none before closed = record {
  districts = λ k. closed.districts k
      ∙ sum_entries_all (to_district k) tables.lines.entries left _ none (before.districts k)
      ∙ sym (total-view exact_line (to_district k) tables.lines ordered);
  orders = λ k. closed.orders k ∙ sum_entries_all (to_order k) tables.lines.entries left _ none (before.orders k)
      ∙ sym (total-view exact_line (to_order k) tables.lines ordered);
  delivered = λ k. closed.delivered k
      ∙ sum_entries_all (to_customer tables.orders.entries k) tables.lines.entries left _ none (before.delivered k)
      ∙ sym (total-view exact_line (to_customer tables.orders.entries k) tables.lines ordered);
  delivered_bound = closed.delivered_bound;
}

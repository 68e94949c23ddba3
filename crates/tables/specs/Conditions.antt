-- The consistency conditions (TPC-C 3.3.2) over the rows of the tables.
use Rattle.std.specs.Prelude.{◌≡◌, ℕ, ◌+◌, ℤ, pos, ◌+ℤ◌, ◌-ℤ◌, Bool, true, false, ◌==◌, ◌&&◌, cond, is_some, is_none}
use Rattle.std.specs.Prelude.{length}
use Rattle.std.specs.Option.{ForSome, option_map_or}
use Rattle.std.specs.FinMap.{FinMap, get}
use Rattle.tables.specs.Keys.{IsWarehouseKey, IsDistrictKey, IsCustomerKey, order_cmp, is_district, is_customer}
use Rattle.tables.specs.Keys.{is_order, order_of}
use Rattle.tables.specs.Maps.{sum_where, count, sum_of, column}
use Rattle.tables.specs.OrderNumbers.{least, greatest, numbers_in, next_order}
use Rattle.tables.specs.Database.{Database}
use Rattle.tables.specs.declared.keys.DistrictKey.{DistrictKey}
use Rattle.tables.specs.declared.keys.CustomerKey.{CustomerKey}
use Rattle.tables.specs.declared.keys.OrderKey.{OrderKey}
use Rattle.tables.specs.declared.keys.LineKey.{LineKey}
use Rattle.tables.specs.declared.rows.Order.{Order}
use Rattle.tables.specs.declared.rows.OrderLine.{OrderLine}

-- whether an order is this customer's
abbrev pub is_buyer : FinMap order_cmp Order → CustomerKey → OrderKey → Bool
is_buyer orders k j = option_map_or (λ order. order.customer == k.customer) (get orders j) false

-- whether a line is delivered, and its order is this customer's
abbrev pub is_line_of : FinMap order_cmp Order → CustomerKey → LineKey → OrderLine → Bool
is_line_of orders k j line =
    is_some line.delivery_date && (j.warehouse == k.warehouse) && (j.district == k.district)
    && is_buyer orders k (order_of j)

-- the sum of OL_AMOUNT over the customer's delivered lines
abbrev pub delivered_amount : Database → CustomerKey → ℤ
delivered_amount t k = sum_where (is_line_of t.orders k) (λ line. line.amount) t.lines

-- the sums of H_AMOUNT by H_W_ID; by H_W_ID and H_D_ID; by H_C_W_ID, H_C_D_ID and H_C_ID
abbrev pub paid_at_warehouse : Database → ℕ → ℤ
paid_at_warehouse t w = sum_of (λ h. cond (h.warehouse == w) h.amount (pos 0)) t.history

abbrev pub paid_at_district : Database → DistrictKey → ℤ
paid_at_district t k = sum_of (λ h. cond (is_district h.warehouse h.district k) h.amount (pos 0)) t.history

abbrev pub paid_by_customer : Database → CustomerKey → ℤ
paid_by_customer t k =
    sum_of (λ h. cond (is_customer h.customer_warehouse h.customer_district h.customer k) h.amount (pos 0)) t.history

-- 3.3.2.1: W_YTD is the sum of the warehouse's D_YTD
abbrev pub Condition1At : Database → ℕ → Type 0
Condition1At t w =
    column (λ r. r.year_to_date) t.warehouses w ≡ sum_where (λ k r. k.warehouse == w) (λ r. r.year_to_date) t.districts

-- so where a NEW-ORDER row of the district stands, of the least NO_O_ID
abbrev pub WhereWaiting : Database → DistrictKey → (ℕ → Type 0) → Type 0
WhereWaiting t k P = ForSome (least (numbers_in k t.new_orders)) P

-- 3.3.2.2: D_NEXT_O_ID - 1 is the greatest O_ID, 0 where there is no order, and the greatest NO_O_ID where there is a
-- NEW-ORDER row
abbrev pub Condition2At : Database → DistrictKey → Type 0
Condition2At t k = (greatest (numbers_in k t.orders) + 1 ≡ next_order t k)
    × WhereWaiting t k (λ first. greatest (numbers_in k t.new_orders) + 1 ≡ next_order t k)

-- 3.3.2.3: the greatest NO_O_ID minus the least plus 1 is the number of NEW-ORDER rows, where there are any
abbrev pub Condition3At : Database → DistrictKey → Type 0
Condition3At t k = WhereWaiting t k (λ first.
    greatest (numbers_in k t.new_orders) + 1 ≡ first + length (numbers_in k t.new_orders))

-- the sum of O_OL_CNT over a district's orders
abbrev pub line_counts : Database → DistrictKey → ℤ
line_counts t k =
    sum_where (λ j order. is_district j.warehouse j.district k) (λ order. pos order.line_count) t.orders

-- 3.3.2.4: the sum of O_OL_CNT is the number of ORDER-LINE rows
abbrev pub Condition4At : Database → DistrictKey → Type 0
Condition4At t k = line_counts t k ≡ count (λ j line. is_district j.warehouse j.district k) t.lines

-- 3.3.2.5: an order's O_CARRIER_ID is null exactly where it has a NEW-ORDER row
abbrev pub Condition5At : Database → OrderKey → Type 0
Condition5At t k = ForSome (get t.orders k) (λ order. is_none order.carrier ≡ is_some (get t.new_orders k))

-- 3.3.2.6: an order's O_OL_CNT is the number of its lines
abbrev pub Condition6At : Database → OrderKey → Type 0
Condition6At t k = ForSome (get t.orders k) (λ order.
    pos order.line_count ≡ count (λ j line. is_order j.warehouse j.district j.order k) t.lines)

-- 3.3.2.7: a line's OL_DELIVERY_D is null exactly where its order's O_CARRIER_ID is. The column of a missing order
-- counts as null
abbrev pub Condition7At : Database → LineKey → Type 0
Condition7At t k = ForSome (get t.lines k) (λ line.
    is_none line.delivery_date ≡ option_map_or (λ order. is_none order.carrier) (get t.orders (order_of k)) true)

-- 3.3.2.8: W_YTD is the sum of H_AMOUNT by H_W_ID
abbrev pub Condition8At : Database → ℕ → Type 0
Condition8At t w = column (λ r. r.year_to_date) t.warehouses w ≡ paid_at_warehouse t w

-- 3.3.2.9: D_YTD is the sum of H_AMOUNT by H_W_ID and H_D_ID
abbrev pub Condition9At : Database → DistrictKey → Type 0
Condition9At t k = column (λ r. r.year_to_date) t.districts k ≡ paid_at_district t k

-- 3.3.2.10: C_BALANCE is the sum of OL_AMOUNT over the customer's delivered lines minus the customer's sum of H_AMOUNT
abbrev pub Condition10At : Database → CustomerKey → Type 0
Condition10At t k = column (λ r. r.balance) t.customers k ≡ delivered_amount t k -ℤ paid_by_customer t k

-- 3.3.2.12: C_BALANCE + C_YTD_PAYMENT is the sum of OL_AMOUNT over the customer's delivered lines
abbrev pub Condition12At : Database → CustomerKey → Type 0
Condition12At t k = column (λ r. r.balance) t.customers k +ℤ column (λ r. r.paid) t.customers k ≡ delivered_amount t k

-- each condition holds: 5 and 6 at each ORDER row, 7 at each ORDER-LINE row, the others at each key of the scale
pub record IsConsistent (t : Database) : Type 0 where
  pub condition_1 : (w : ℕ) → IsWarehouseKey t.scale w → Condition1At t w
  pub condition_2 : (k : DistrictKey) → IsDistrictKey t.scale k → Condition2At t k
  pub condition_3 : (k : DistrictKey) → IsDistrictKey t.scale k → Condition3At t k
  pub condition_4 : (k : DistrictKey) → IsDistrictKey t.scale k → Condition4At t k
  pub condition_5 : (k : OrderKey) → Condition5At t k
  pub condition_6 : (k : OrderKey) → Condition6At t k
  pub condition_7 : (k : LineKey) → Condition7At t k
  pub condition_8 : (w : ℕ) → IsWarehouseKey t.scale w → Condition8At t w
  pub condition_9 : (k : DistrictKey) → IsDistrictKey t.scale k → Condition9At t k
  pub condition_10 : (k : CustomerKey) → IsCustomerKey t.scale k → Condition10At t k
  pub condition_12 : (k : CustomerKey) → IsCustomerKey t.scale k → Condition12At t k

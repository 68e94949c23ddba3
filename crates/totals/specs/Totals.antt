-- Running totals of tables: what the consistency conditions (TPC-C 3.3.2) sum, count and compare, by place.
use Rattle.std.specs.Prelude.{◌≡◌, ℕ, ◌-◌, ◌==◌, ℤ, pos, List, length, slice_index_or}
use Rattle.tables.specs.Sizes.{Sizes}
use Rattle.tables.specs.Keys.{IsWarehouseKey, IsDistrictKey, IsCustomerKey, IsOrderKey, is_district, is_order}
use Rattle.tables.specs.Maps.{sum_where, count}
use Rattle.tables.specs.OrderNumbers.{numbers_in}
use Rattle.tables.specs.Records.{district_place, customer_place, order_place}
use Rattle.tables.specs.Database.{Database}
use Rattle.tables.specs.Conditions.{line_counts, delivered_amount, paid_at_warehouse, paid_at_district}
use Rattle.tables.specs.Conditions.{paid_by_customer}
use Rattle.tables.specs.declared.keys.DistrictKey.{DistrictKey}
use Rattle.tables.specs.declared.keys.CustomerKey.{CustomerKey}
use Rattle.tables.specs.declared.keys.OrderKey.{OrderKey}
use Rattle.totals_bounds.specs.Bounds.{BoundsView, AreBounds}

-- the totals that are sums and counts, each a list by place of its key, and the scale that says which places there
-- are: by warehouse, by district, by customer, by order
pub record SumsView : Type 0 where
  pub scale : Sizes
  pub year_to_date : List ℤ
  pub paid_at_warehouse : List ℤ
  pub paid_at_district : List ℤ
  pub paid_by_customer : List ℤ
  pub delivered : List ℤ
  pub line_counts : List ℤ
  pub district_lines : List ℤ
  pub order_lines : List ℤ
  pub waiting : List ℤ

-- the totals of a database: sums and counts, and the least and the greatest order numbers of its districts
pub record TotalsView : Type 0 where
  pub sums : SumsView
  pub bounds : BoundsView

-- the amount at a place
abbrev pub amount_in : List ℤ → ℕ → ℤ
amount_in amounts place = slice_index_or amounts place (pos 0)

-- each of those sums is what its conditions speak of
pub record AreSums (s : Sizes) (t : Database) (v : SumsView) : Type 0 where
  -- 3.3.2.1: D_YTD by warehouse
  pub year_to_date : (w : ℕ) → IsWarehouseKey s w → amount_in v.year_to_date (w - 1)
      ≡ sum_where (λ k r. k.warehouse == w) (λ r. r.year_to_date) t.districts
  -- 3.3.2.8, 3.3.2.9, 3.3.2.10: H_AMOUNT by warehouse, by district and by customer
  pub paid_at_warehouse : (w : ℕ) → IsWarehouseKey s w
      → amount_in v.paid_at_warehouse (w - 1) ≡ paid_at_warehouse t w
  pub paid_at_district : (k : DistrictKey) → IsDistrictKey s k
      → amount_in v.paid_at_district (district_place s k.warehouse k.district) ≡ paid_at_district t k
  pub paid_by_customer : (k : CustomerKey) → IsCustomerKey s k
      → amount_in v.paid_by_customer (customer_place s k) ≡ paid_by_customer t k
  -- 3.3.2.10, 3.3.2.12: OL_AMOUNT of delivered lines by customer
  pub delivered : (k : CustomerKey) → IsCustomerKey s k
      → amount_in v.delivered (customer_place s k) ≡ delivered_amount t k
  -- 3.3.2.4: O_OL_CNT and the number of lines, by district
  pub line_counts : (k : DistrictKey) → IsDistrictKey s k
      → amount_in v.line_counts (district_place s k.warehouse k.district) ≡ line_counts t k
  pub district_lines : (k : DistrictKey) → IsDistrictKey s k
      → amount_in v.district_lines (district_place s k.warehouse k.district)
      ≡ count (λ j line. is_district j.warehouse j.district k) t.lines
  -- 3.3.2.6: the number of lines by order
  pub order_lines : (k : OrderKey) → IsOrderKey s k → amount_in v.order_lines (order_place s k)
      ≡ count (λ j line. is_order j.warehouse j.district j.order k) t.lines
  -- 3.3.2.3: the number of NEW-ORDER rows by district
  pub waiting : (k : DistrictKey) → IsDistrictKey s k
      → amount_in v.waiting (district_place s k.warehouse k.district)
      ≡ pos (length (numbers_in k t.new_orders))

-- each total is its number over the tables
pub record AreTotals (t : Database) (v : TotalsView) : Type 0 where
  pub sums_scale : v.sums.scale ≡ t.scale
  pub bounds_scale : v.bounds.scale ≡ t.scale
  pub sums : AreSums t.scale t v.sums
  pub bounds : AreBounds t.scale t v.bounds

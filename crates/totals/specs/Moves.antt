-- By how much written records move totals.
use Rattle.std.specs.Prelude.{◌≡◌, ℕ, ◌-◌, ◌==◌, ℤ, pos, ◌+ℤ◌, ◌-ℤ◌, cond, Option, Some, List, [], ◌∷◌, slice_index}
use Rattle.std.specs.Int.{Width, w8, w64, int_wrap}
use Rattle.std.specs.Int.RustNames.{FitsSigned}
use Rattle.std.specs.Option.{option_map_or}
use Rattle.tables.specs.Sizes.{Sizes, IsNumber}
use Rattle.tables.specs.Keys.{IsWarehouseKey, IsDistrictKey, IsCustomerKey, IsOrderKey, is_district}
use Rattle.tables.specs.Keys.{is_customer}
use Rattle.tables.specs.Records.{key_of, number_of_key, district_place, customer_place, order_place}
use Rattle.tables.specs.declared.keys.DistrictKey.{DistrictKey}
use Rattle.tables.specs.declared.keys.CustomerKey.{CustomerKey}
use Rattle.tables.specs.declared.keys.OrderKey.{OrderKey}
use Rattle.tables.specs.declared.rows.History.{History}
use Rattle.tables.specs.declared.records.RecordKey.{RecordKey}
use Rattle.tables.specs.declared.records.RecordKey.TheVariants as key
use Rattle.readset.specs.Writes.{WriteSetView}
use Rattle.totals.specs.Totals.{SumsView, amount_in}
use Rattle.totals.specs.Worth.{Worth, year_to_date_of, line_count_in, line_in, line_of, one_in, delivered_to}

-- what a record is worth, and nothing where it is absent
abbrev pub worth_of : Worth → RecordKey → Option (List ℕ) → ℤ
worth_of f key value = option_map_or (f key) value (pos 0)

-- by how much a sum moves where a record comes to hold other words
abbrev pub step : RecordKey → Option (List ℕ) → Option (List ℕ) → Worth → ℤ
step key old new f = worth_of f key new -ℤ worth_of f key old

-- by how much it moves where these records come to hold these words, and held those
abbrev pub moved : Sizes → (ℕ → Option (List ℕ)) → List (ℕ × Option (List ℕ)) → Worth → ℤ
moved s held [] f = pos 0
moved s held (w ∷ ws) f = step (key_of s w.0) (held w.0) w.1 f +ℤ moved s held ws f

-- H_AMOUNT to its warehouse, to its district, and to its customer
abbrev pub amount_at_warehouse : ℕ → History → ℤ
amount_at_warehouse w h = cond (h.warehouse == w) h.amount (pos 0)

abbrev pub amount_at_district : DistrictKey → History → ℤ
amount_at_district k h = cond (is_district h.warehouse h.district k) h.amount (pos 0)

abbrev pub amount_by_customer : CustomerKey → History → ℤ
amount_by_customer k h = cond (is_customer h.customer_warehouse h.customer_district h.customer k) h.amount (pos 0)

-- by how much a HISTORY row, if there is one, moves a sum
abbrev pub row_moves : Option History → (History → ℤ) → ℤ
row_moves row f = option_map_or f row (pos 0)

-- no HISTORY row
abbrev pub no_history : (History → ℤ) → ℤ
no_history f = pos 0

-- no record
abbrev pub no_record : Worth → ℤ
no_record f = pos 0

-- an amount that is held in so many bits has moved by z, and what doesn't fit is dropped
abbrev pub IsMoved : Width → ℤ → ℤ → ℤ → Type 0
IsMoved w before after z = FitsSigned w before → after ≡ int_wrap w (before +ℤ z)

-- each sum of a scale has moved by what records and HISTORY are worth to it, where orders have these words
pub record MovesSums (s : Sizes) (order : OrderKey → Option (List ℕ)) (records : Worth → ℤ) (history : (History → ℤ) → ℤ)
    (v v' : SumsView) : Type 0 where
  pub year_to_date : (w : ℕ) → IsWarehouseKey s w → IsMoved w64 (amount_in v.year_to_date (w - 1))
      (amount_in v'.year_to_date (w - 1)) (records (year_to_date_of w))
  pub paid_at_warehouse : (w : ℕ) → IsWarehouseKey s w → IsMoved w64 (amount_in v.paid_at_warehouse (w - 1))
      (amount_in v'.paid_at_warehouse (w - 1)) (history (amount_at_warehouse w))
  pub paid_at_district : (k : DistrictKey) → IsDistrictKey s k
      → IsMoved w64 (amount_in v.paid_at_district (district_place s k.warehouse k.district))
      (amount_in v'.paid_at_district (district_place s k.warehouse k.district)) (history (amount_at_district k))
  pub paid_by_customer : (k : CustomerKey) → IsCustomerKey s k
      → IsMoved w64 (amount_in v.paid_by_customer (customer_place s k))
      (amount_in v'.paid_by_customer (customer_place s k)) (history (amount_by_customer k))
  pub delivered : (k : CustomerKey) → IsCustomerKey s k
      → IsMoved w64 (amount_in v.delivered (customer_place s k))
      (amount_in v'.delivered (customer_place s k)) (records (delivered_to order k))
  pub line_counts : (k : DistrictKey) → IsDistrictKey s k
      → IsMoved w64 (amount_in v.line_counts (district_place s k.warehouse k.district))
      (amount_in v'.line_counts (district_place s k.warehouse k.district)) (records (line_count_in k))
  pub district_lines : (k : DistrictKey) → IsDistrictKey s k
      → IsMoved w64 (amount_in v.district_lines (district_place s k.warehouse k.district))
      (amount_in v'.district_lines (district_place s k.warehouse k.district)) (records (line_in k))
  pub order_lines : (k : OrderKey) → IsOrderKey s k
      → IsMoved w8 (amount_in v.order_lines (order_place s k))
      (amount_in v'.order_lines (order_place s k)) (records (line_of k))
  pub waiting : (k : DistrictKey) → IsDistrictKey s k
      → IsMoved w64 (amount_in v.waiting (district_place s k.warehouse k.district))
      (amount_in v'.waiting (district_place s k.warehouse k.district)) (records (one_in k))

-- the words of an order before a commit, where the records hold these: it is as yet nobody's where it isn't there
abbrev pub order_before : Sizes → (ℕ → Option (List ℕ)) → OrderKey → Option (List ℕ)
order_before s held k = held (number_of_key s (key.Order k))

-- each order names a customer of the scale
abbrev pub HasBuyers : Sizes → (ℕ → Option (List ℕ)) → Type 0
HasBuyers s held = (k : OrderKey) → IsOrderKey s k → (words : List ℕ) → order_before s held k ≡ Some words
    → IsNumber s.customers (slice_index words 0)

-- the sums follow a commit's writes and its HISTORY row, where the records hold these words before it
abbrev pub SumsFollow : Sizes → (ℕ → Option (List ℕ)) → WriteSetView → SumsView → SumsView → Type 0
SumsFollow s held writes v v' =
    MovesSums s (order_before s held) (moved s held writes.values) (row_moves writes.history_row) v v'

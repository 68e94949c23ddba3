-- What the words of one record are worth to each total that is a sum.
use Rattle.std.specs.Prelude.{ℕ, nat_lt, ◌==◌, ◌&&◌, ℤ, pos, Bool, false, Option, List, cond, slice_index}
use Rattle.std.specs.Option.{option_map_or}
use Rattle.tables.specs.Keys.{is_district, is_customer, is_order, order_of}
use Rattle.tables.specs.Rows.{money_of}
use Rattle.tables.specs.declared.keys.DistrictKey.{DistrictKey}
use Rattle.tables.specs.declared.keys.CustomerKey.{CustomerKey}
use Rattle.tables.specs.declared.keys.OrderKey.{OrderKey}
use Rattle.tables.specs.declared.keys.LineKey.{LineKey}
use Rattle.tables.specs.declared.records.RecordKey.{RecordKey}
use Rattle.tables.specs.declared.records.RecordKey.TheVariants as key

-- what a record with these words is worth, by its key
abbrev pub Worth : Type 0
Worth = RecordKey → List ℕ → ℤ

-- D_YTD, the first word of a DISTRICT row, to its warehouse
abbrev pub year_to_date_of : ℕ → Worth
year_to_date_of w (key.District j) words = cond (j.warehouse == w) (money_of (slice_index words 0)) (pos 0)
year_to_date_of w _ words = pos 0

-- O_OL_CNT, the fourth word of an ORDER row, to its district
abbrev pub line_count_in : DistrictKey → Worth
line_count_in k (key.Order j) words =
    cond (is_district j.warehouse j.district k) (money_of (slice_index words 3)) (pos 0)
line_count_in k _ words = pos 0

-- an ORDER-LINE row counts for its district, and for its order
abbrev pub line_in : DistrictKey → Worth
line_in k (key.OrderLine j) words = cond (is_district j.warehouse j.district k) (pos 1) (pos 0)
line_in k _ words = pos 0

abbrev pub line_of : OrderKey → Worth
line_of k (key.OrderLine j) words = cond (is_order j.warehouse j.district j.order k) (pos 1) (pos 0)
line_of k _ words = pos 0

-- a NEW-ORDER row counts for its district
abbrev pub one_in : DistrictKey → Worth
one_in k (key.NewOrder j) words = cond (is_district j.warehouse j.district k) (pos 1) (pos 0)
one_in k _ words = pos 0

-- whether a line's order, of which these are the words, names this customer
abbrev pub is_bought : (OrderKey → Option (List ℕ)) → CustomerKey → LineKey → Bool
is_bought order k j =
    option_map_or (λ words. is_customer j.warehouse j.district (slice_index words 0) k) (order (order_of j)) false

-- OL_AMOUNT, the fifth word of an ORDER-LINE row, to its order's customer, where OL_DELIVERY_D, the third, isn't null
abbrev pub delivered_to : (OrderKey → Option (List ℕ)) → CustomerKey → Worth
delivered_to order k (key.OrderLine j) words =
    cond (nat_lt 0 (slice_index words 2) && is_bought order k j) (money_of (slice_index words 4)) (pos 0)
delivered_to order k _ words = pos 0

-- What records hold: the columns that change, as words, or nothing where a record is absent. C_DATA has a record of its
-- own.
use Rattle.std.specs.Prelude.{ℕ, ◌-◌, ℤ, cond, Option, Some, List, [], ◌∷◌, ◌++◌, length, replicate, ◌==◌, ◌&&◌}
use Rattle.std.specs.Int.{w64, cast_unsigned, cast_signed}
use Rattle.std.specs.Option.{option_map, unwrap_or}
use Rattle.std.specs.FinMap.{get}
use Rattle.money.specs.declared.payload.TheConstants.{PAYLOAD_WORDS}
use Rattle.customer_data.specs.Words.{data_words}
use Rattle.tables.specs.Database.{Database}
use Rattle.tables.specs.OrderNumbers.{least, greatest, order_numbers, numbers_in, next_order}
use Rattle.tables.specs.Records.{key_of}
use Rattle.tables.specs.declared.keys.DistrictKey.{DistrictKey}
use Rattle.tables.specs.declared.keys.CustomerKey.{CustomerKey}
use Rattle.tables.specs.declared.rows.Warehouse.{Warehouse}
use Rattle.tables.specs.declared.rows.District.{District}
use Rattle.tables.specs.declared.rows.Customer.{Customer}
use Rattle.tables.specs.declared.rows.NewOrder.{NewOrder}
use Rattle.tables.specs.declared.rows.Order.{Order}
use Rattle.tables.specs.declared.rows.OrderLine.{OrderLine}
use Rattle.tables.specs.declared.rows.Stock.{Stock}
use Rattle.tables.specs.declared.records.RecordKey.{RecordKey}
use Rattle.tables.specs.declared.records.RecordKey.TheVariants as key

-- money as a word of 64 bits, two's complement, and back
abbrev pub money_word : ℤ → ℕ
money_word z = cast_unsigned w64 z

abbrev pub money_of : ℕ → ℤ
money_of n = cast_signed w64 n

-- the data of a record with these columns: their words, then zeros
abbrev pub payload_of : List ℕ → List ℕ
payload_of words = words ++ replicate (PAYLOAD_WORDS - length words) 0

abbrev pub warehouse_words : Warehouse → List ℕ
warehouse_words r = payload_of (money_word r.year_to_date ∷ [])

abbrev pub district_words : District → List ℕ
district_words r = payload_of (money_word r.year_to_date ∷ r.next_order ∷ [])

abbrev pub customer_words : Customer → List ℕ
customer_words r = payload_of (money_word r.balance ∷ money_word r.paid ∷ r.payments ∷ r.deliveries ∷ [])

abbrev pub new_order_words : NewOrder → List ℕ
new_order_words r = payload_of []

-- null is 0
abbrev pub order_words : Order → List ℕ
order_words r =
    payload_of (r.customer ∷ r.entry_date ∷ unwrap_or r.carrier 0 ∷ r.line_count ∷ cond r.all_local 1 0 ∷ [])

abbrev pub line_words : OrderLine → List ℕ
line_words r =
    payload_of (r.item ∷ r.supply_warehouse ∷ unwrap_or r.delivery_date 0 ∷ r.quantity ∷ money_word r.amount ∷ [])

abbrev pub stock_words : Stock → List ℕ
stock_words r = payload_of (r.quantity ∷ r.year_to_date ∷ r.orders ∷ r.remote_orders ∷ [])

abbrev pub number_words : ℕ → List ℕ
number_words n = payload_of (n ∷ [])

-- the least NO_O_ID of a district, or D_NEXT_O_ID where it has no NEW-ORDER row
abbrev pub oldest : Database → DistrictKey → ℕ
oldest t k = unwrap_or (least (numbers_in k t.new_orders)) (next_order t k)

-- the greatest O_ID of a customer, or 0
abbrev pub last : Database → CustomerKey → ℕ
last t k = greatest (order_numbers (λ e. (e.0.warehouse == k.warehouse) && (e.0.district == k.district)
    && (e.1.customer == k.customer)) t.orders)

-- what the record of a key holds
abbrev pub row_at : Database → RecordKey → Option (List ℕ)
row_at t (key.Warehouse w) = option_map warehouse_words (get t.warehouses w)
row_at t (key.District k) = option_map district_words (get t.districts k)
row_at t (key.Customer k) = option_map customer_words (get t.customers k)
row_at t (key.NewOrder k) = option_map new_order_words (get t.new_orders k)
row_at t (key.Order k) = option_map order_words (get t.orders k)
row_at t (key.OrderLine k) = option_map line_words (get t.lines k)
row_at t (key.Stock k) = option_map stock_words (get t.stock k)
row_at t (key.Oldest k) = Some (number_words (oldest t k))
row_at t (key.Last k) = Some (number_words (last t k))
row_at t (key.CustomerData k) = option_map data_words (get t.texts k)

-- what the record of a number holds
abbrev pub rows : Database → ℕ → Option (List ℕ)
rows t n = row_at t (key_of t.scale n)

-- The steps of a Delivery (TPC-C 2.7.4.2): the tables when it has come so far.
use Rattle.std.specs.Prelude.{◌≡◌, ℕ, ◌+◌, ◌<◌, nat_le, ℤ, pos, ◌+ℤ◌, Bool, false, not, ◌==◌, ◌&&◌, ◌||◌, cond}
use Rattle.std.specs.Prelude.{zero, suc, Option, None, IsSome, List, map}
use Rattle.std.specs.List.{range_with_len}
use Rattle.std.specs.Option.{option_map_or}
use Rattle.std.specs.FinMap.{retain_keys}
use Rattle.tables.specs.Keys.{is_order, order_of}
use Rattle.tables.specs.Maps.{map_rows, update_where, column}
use Rattle.tables.specs.Database.{Database}
use Rattle.tables.specs.NewOrder.{line_key}
use Rattle.tables.specs.Records.{number_of_key}
use Rattle.tables.specs.Rows.{row_at}
use Rattle.tables.specs.Delivery.{waiting, carried, dated, after_taken}
use Rattle.tables.specs.declared.keys.DistrictKey.{DistrictKey}
use Rattle.tables.specs.declared.keys.OrderKey.{OrderKey}
use Rattle.tables.specs.declared.keys.LineKey.{LineKey}
use Rattle.tables.specs.declared.delivery.DeliveryInput.{DeliveryInput}
use Rattle.tables.specs.declared.delivery.DeliveredOrder.{DeliveredOrder}
use Rattle.tables.specs.declared.records.RecordKey.{RecordKey}
use Rattle.tables.specs.declared.records.RecordKey.TheVariants as key
use Rattle.readset.specs.Changes.{Holds}
use Rattle.readset.specs.Reads.{held}
use Rattle.readset.specs.Transaction.{TransactionView, AtAll}

-- the district after the first n
abbrev pub next_home : DeliveryInput → ℕ → DistrictKey
next_home x n = record { warehouse = x.warehouse; district = n + 1 }

-- the order of this number in it
abbrev pub next_key : DeliveryInput → ℕ → ℕ → OrderKey
next_key x n o = record { warehouse = x.warehouse; district = n + 1; order = o }

-- the order that it has taken in a district once the first n districts are done
abbrev pub taken_by : Database → DeliveryInput → ℕ → DistrictKey → Option ℕ
taken_by t x n k = cond ((k.warehouse == x.warehouse) && nat_le k.district n) (waiting t k) None

-- whether it has taken this order then
abbrev pub is_taken_by : Database → DeliveryInput → ℕ → OrderKey → Bool
is_taken_by t x n k =
    option_map_or (λ o. o == k.order) (taken_by t x n (record { warehouse = k.warehouse; district = k.district })) false

-- the tables then. With all districts they are those after it
abbrev pub after_districts : Database → DeliveryInput → ℕ → Database
after_districts t x n = record t {
  customers =
      map_rows (λ c r. after_taken t c (taken_by t x n (record { warehouse = c.warehouse; district = c.district })) r)
      t.customers;
  new_orders = retain_keys t.new_orders (λ k. not (is_taken_by t x n k));
  orders = update_where (is_taken_by t x n) (carried x) t.orders;
  lines = update_where (λ j. is_taken_by t x n (order_of j)) (dated x) t.lines;
}

-- whether a line is one of the first m of an order
abbrev pub is_early_line : OrderKey → ℕ → LineKey → Bool
is_early_line k m j = is_order k.warehouse k.district k.order (order_of j) && nat_le j.line m

-- the tables once the first n districts are done, and OL_DELIVERY_D of the first m lines of order k is set
abbrev pub with_dates : Database → DeliveryInput → ℕ → OrderKey → ℕ → Database
with_dates t x n k m = record (after_districts t x n)
    { lines = update_where (λ j. is_taken_by t x n (order_of j) || is_early_line k m j) (dated x) t.lines }

-- the sum of OL_AMOUNT over the first m lines of an order
abbrev pub amount_up_to : Database → OrderKey → ℕ → ℤ
amount_up_to t k zero = pos 0
amount_up_to t k (suc m) = amount_up_to t k m +ℤ column (λ r. r.amount) t.lines (line_key k (suc m))

-- the rows of a database, with those of OLDEST as another has them: a Delivery writes them last
abbrev pub with_oldest : Database → Database → RecordKey → Option (List ℕ)
with_oldest other t (key.Warehouse w) = row_at t (key.Warehouse w)
with_oldest other t (key.District k) = row_at t (key.District k)
with_oldest other t (key.Customer k) = row_at t (key.Customer k)
with_oldest other t (key.NewOrder k) = row_at t (key.NewOrder k)
with_oldest other t (key.Order k) = row_at t (key.Order k)
with_oldest other t (key.OrderLine k) = row_at t (key.OrderLine k)
with_oldest other t (key.Stock k) = row_at t (key.Stock k)
with_oldest other t (key.Oldest k) = row_at other (key.Oldest k)
with_oldest other t (key.Last k) = row_at t (key.Last k)
with_oldest other t (key.CustomerData k) = row_at t (key.CustomerData k)

-- the first n districts are done, and OLDEST is written of the first m: at all tables at which the transaction may have
-- read, the writes put in make the rows of the tables when it has come so far
abbrev pub AreDone : Database → DeliveryInput → ℕ → ℕ → TransactionView → Type 0
AreDone t0 x n m under_way = AtAll t0 under_way
    (λ t. Holds t under_way.writes (with_oldest (after_districts t x m) (after_districts t x n)))

-- OLDEST of the first n districts was read
abbrev pub AreOldestRead : Database → DeliveryInput → ℕ → TransactionView → Type 0
AreOldestRead t0 x n under_way = (m : ℕ) → m < n
    → IsSome (held under_way.reads (number_of_key t0.scale (key.Oldest (next_home x m))))

-- and the first m lines of order o of the next district have their dates, and this sum
pub record AreDated (t0 : Database) (x : DeliveryInput) (n o m : ℕ) (under_way : TransactionView) (sum : ℤ) : Type 0
  where
    pub holds : AtAll t0 under_way (λ t. Holds t under_way.writes
        (with_oldest (after_districts t x 0) (with_dates t x n (next_key x n o) m)))
    pub sum_is : AtAll t0 under_way (λ t. amount_up_to t (next_key x n o) m ≡ sum)

-- these are the first n lines of its reply
abbrev pub AreTold : Database → DeliveryInput → ℕ → TransactionView → List DeliveredOrder → Type 0
AreTold t0 x n under_way orders = AtAll t0 under_way (λ t.
    map (λ d. record { district = d; order = waiting t (record { warehouse = x.warehouse; district = d }) })
    (range_with_len 1 n) ≡ orders)

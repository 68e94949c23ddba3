-- The numbers of records. A record is named by its table and place, by its key, or by its number.
use Rattle.std.specs.Prelude.{◌≡◌, ℕ, ◌+◌, ◌-◌, ◌*◌, ◌/◌, ◌%◌, ◌<◌, ◌==◌, nat_lt, cond, List, [], ◌∷◌, Option, find}
use Rattle.std.specs.List.{filter, sum_by}
use Rattle.tables.specs.Sizes.{Sizes}
use Rattle.tables.specs.declared.limits.TheConstants.{MAX_ORDER_LINES}
use Rattle.tables.specs.Keys.{IsWarehouseKey, IsDistrictKey, IsCustomerKey, IsOrderKey, IsLineKey, IsStockKey, order_of}
use Rattle.tables.specs.declared.keys.DistrictKey.{DistrictKey}
use Rattle.tables.specs.declared.keys.CustomerKey.{CustomerKey}
use Rattle.tables.specs.declared.keys.OrderKey.{OrderKey}
use Rattle.tables.specs.declared.keys.LineKey.{LineKey}
use Rattle.tables.specs.declared.keys.StockKey.{StockKey}
use Rattle.tables.specs.declared.records.Table.{Table}
use Rattle.tables.specs.declared.records.Table.TheVariants as table
use Rattle.tables.specs.declared.records.RecordKey.{RecordKey}
use Rattle.tables.specs.declared.records.RecordKey.TheVariants as key

abbrev pub tables : List Table
tables = table.Warehouse ∷ table.District ∷ table.Customer ∷ table.History ∷ table.NewOrder ∷ table.Order
    ∷ table.OrderLine ∷ table.Item ∷ table.Stock ∷ table.Oldest ∷ table.Last ∷ table.CustomerData ∷ []

abbrev pub table_number : Table → ℕ
table_number table.Warehouse = 1
table_number table.District = 2
table_number table.Customer = 3
table_number table.History = 4
table_number table.NewOrder = 5
table_number table.Order = 6
table_number table.OrderLine = 7
table_number table.Item = 8
table_number table.Stock = 9
table_number table.Oldest = 10
table_number table.Last = 11
table_number table.CustomerData = 12

-- the table of a number, if it is one's
abbrev pub table_numbered : ℕ → Option Table
table_numbered n = find (λ t. table_number t == n) tables

-- how many records a table has room for. Each key of the scale has its record, whether it has a row or not
abbrev pub size : Sizes → Table → ℕ
size s table.Warehouse = s.warehouses
size s table.District = s.warehouses * s.districts
size s table.Customer = s.warehouses * s.districts * s.customers
size s table.History = 0
size s table.NewOrder = s.warehouses * s.districts * s.orders
size s table.Order = s.warehouses * s.districts * s.orders
size s table.OrderLine = s.warehouses * s.districts * s.orders * MAX_ORDER_LINES
size s table.Item = 0
size s table.Stock = s.warehouses * s.items
size s table.Oldest = s.warehouses * s.districts
size s table.Last = s.warehouses * s.districts * s.customers
size s table.CustomerData = s.warehouses * s.districts * s.customers

-- the number of a table's first record: the sum of the sizes of the tables with smaller numbers
abbrev pub first_number : Sizes → Table → ℕ
first_number s t = sum_by (size s) (filter (λ u. nat_lt (table_number u) (table_number t)) tables)

-- the number of all records
abbrev pub record_count : Sizes → ℕ
record_count s = sum_by (size s) tables

-- the number of the narrow ones, which hold the columns of a row or a number of the engine's own. Those behind them are
-- wide: they hold C_DATA
abbrev pub narrow_count : Sizes → ℕ
narrow_count s = first_number s table.CustomerData

abbrev pub record_number : Sizes → Table → ℕ → ℕ
record_number s t place = first_number s t + place

-- the table of a key, and its place there: keys stand in their order
abbrev pub table_of : RecordKey → Table
table_of (key.Warehouse w) = table.Warehouse
table_of (key.District k) = table.District
table_of (key.Customer k) = table.Customer
table_of (key.NewOrder k) = table.NewOrder
table_of (key.Order k) = table.Order
table_of (key.OrderLine k) = table.OrderLine
table_of (key.Stock k) = table.Stock
table_of (key.Oldest k) = table.Oldest
table_of (key.Last k) = table.Last
table_of (key.CustomerData k) = table.CustomerData

abbrev pub district_place : Sizes → ℕ → ℕ → ℕ
district_place s w d = (w - 1) * s.districts + (d - 1)

abbrev pub customer_place : Sizes → CustomerKey → ℕ
customer_place s k = district_place s k.warehouse k.district * s.customers + (k.customer - 1)

abbrev pub order_place : Sizes → OrderKey → ℕ
order_place s k = district_place s k.warehouse k.district * s.orders + (k.order - 1)

abbrev pub place_of : Sizes → RecordKey → ℕ
place_of s (key.Warehouse w) = w - 1
place_of s (key.District k) = district_place s k.warehouse k.district
place_of s (key.Customer k) = customer_place s k
place_of s (key.NewOrder k) = order_place s k
place_of s (key.Order k) = order_place s k
place_of s (key.OrderLine k) = order_place s (order_of k) * MAX_ORDER_LINES + (k.line - 1)
place_of s (key.Stock k) = (k.warehouse - 1) * s.items + (k.item - 1)
place_of s (key.Oldest k) = district_place s k.warehouse k.district
place_of s (key.Last k) = customer_place s k
place_of s (key.CustomerData k) = customer_place s k

-- the number of a key
abbrev pub number_of_key : Sizes → RecordKey → ℕ
number_of_key s k = record_number s (table_of k) (place_of s k)

-- the keys that a scale has
abbrev pub IsRecordKey : Sizes → RecordKey → Type 0
IsRecordKey s (key.Warehouse w) = IsWarehouseKey s w
IsRecordKey s (key.District k) = IsDistrictKey s k
IsRecordKey s (key.Customer k) = IsCustomerKey s k
IsRecordKey s (key.NewOrder k) = IsOrderKey s k
IsRecordKey s (key.Order k) = IsOrderKey s k
IsRecordKey s (key.OrderLine k) = IsLineKey s k
IsRecordKey s (key.Stock k) = IsStockKey s k
IsRecordKey s (key.Oldest k) = IsDistrictKey s k
IsRecordKey s (key.Last k) = IsCustomerKey s k
IsRecordKey s (key.CustomerData k) = IsCustomerKey s k

-- those of narrow records: all but the keys of C_DATA
abbrev pub IsNarrowKey : Sizes → RecordKey → Type 0
IsNarrowKey s (key.CustomerData k) = ⊥
IsNarrowKey s k = IsRecordKey s k

-- the key at a place
abbrev pub district_at : Sizes → ℕ → DistrictKey
district_at s p = record { warehouse = p / s.districts + 1; district = p % s.districts + 1 }

abbrev pub customer_at : Sizes → ℕ → CustomerKey
customer_at s p = let k : DistrictKey = district_at s (p / s.customers) in
    record { warehouse = k.warehouse; district = k.district; customer = p % s.customers + 1 }

abbrev pub order_at : Sizes → ℕ → OrderKey
order_at s p = let k : DistrictKey = district_at s (p / s.orders) in
    record { warehouse = k.warehouse; district = k.district; order = p % s.orders + 1 }

abbrev pub line_at : Sizes → ℕ → LineKey
line_at s p = let k : OrderKey = order_at s (p / MAX_ORDER_LINES) in
    record { warehouse = k.warehouse; district = k.district; order = k.order; line = p % MAX_ORDER_LINES + 1 }

abbrev pub stock_at : Sizes → ℕ → StockKey
stock_at s p = record { warehouse = p / s.items + 1; item = p % s.items + 1 }

-- the key at a place of a table. HISTORY and ITEM have no places
abbrev pub key_at : Sizes → Table → ℕ → RecordKey
key_at s table.Warehouse p = key.Warehouse (p + 1)
key_at s table.District p = key.District (district_at s p)
key_at s table.Customer p = key.Customer (customer_at s p)
key_at s table.History p = key.Warehouse 0
key_at s table.NewOrder p = key.NewOrder (order_at s p)
key_at s table.Order p = key.Order (order_at s p)
key_at s table.OrderLine p = key.OrderLine (line_at s p)
key_at s table.Item p = key.Warehouse 0
key_at s table.Stock p = key.Stock (stock_at s p)
key_at s table.Oldest p = key.Oldest (district_at s p)
key_at s table.Last p = key.Last (customer_at s p)
key_at s table.CustomerData p = key.CustomerData (customer_at s p)

-- of these tables, whose records follow one another, the first whose records end behind a number
unfoldable pub table_among : Sizes → List Table → ℕ → Table
table_among s [] n = table.Last
table_among s (t ∷ ts) n = cond (nat_lt n (size s t)) t (table_among s ts (n - size s t))

-- and the number's place in it
unfoldable pub place_among : Sizes → List Table → ℕ → ℕ
place_among s [] n = n
place_among s (t ∷ ts) n = cond (nat_lt n (size s t)) n (place_among s ts (n - size s t))

-- the table of a record number, and its place there
abbrev pub table_at : Sizes → ℕ → Table
table_at s n = table_among s tables n

abbrev pub place_at : Sizes → ℕ → ℕ
place_at s n = place_among s tables n

-- the key of a number
abbrev pub key_of : Sizes → ℕ → RecordKey
key_of s n = key_at s (table_at s n) (place_at s n)

-- the key of a row's columns: of none of the two index records, nor of a customer's C_DATA
abbrev pub IsRowKey : RecordKey → Type 0
IsRowKey (key.Oldest k) = ⊥
IsRowKey (key.Last k) = ⊥
IsRowKey (key.CustomerData k) = ⊥
IsRowKey k = Unit {0}

-- the keys of a scale and the numbers below `record_count` are one to one: each key's number has that key, and each
-- number's key has that number
abbrev pub NumbersNameKeys : Sizes → Type 0
NumbersNameKeys s = ((k : RecordKey) → IsRecordKey s k → (number_of_key s k < record_count s)
    × (key_of s (number_of_key s k) ≡ k))
    × ((n : ℕ) → n < record_count s → IsRecordKey s (key_of s n) × (number_of_key s (key_of s n) ≡ n))

-- the places of a scale's tables and those numbers are one to one too: two places have two numbers, and each number has
-- its place
abbrev pub NumbersNamePlaces : Sizes → Type 0
NumbersNamePlaces s = ((t u : Table) (p q : ℕ) → p < size s t → q < size s u → (record_number s t p < record_count s)
    × (record_number s t p ≡ record_number s u q → (t ≡ u) × (p ≡ q)))
    × ((n : ℕ) → n < record_count s → (t : Table) × (p : ℕ) × (p < size s t) × (record_number s t p ≡ n))

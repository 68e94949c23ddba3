-- The laws of rows: what records hold are the words of tables' columns, which are within their ranges in well-formed
-- tables; and WAREHOUSE, DISTRICT, CUSTOMER, STOCK, OLDEST and LAST have one at each key of the scale.
use Rattle.std.specs.Prelude.{◌≡◌, ℕ, ◌+◌, ◌≤◌, Option, Some, None, IsSome, is_some, refl}
use Rattle.std.specs.Option.{option_map, option_map_or, unwrap_or}
use Rattle.std.specs.FinMap.{get}
use Rattle.std.proofs.Common.{true≢false, ap, sym, subst, arith}
use Rattle.std.proofs.lemmas.Option.{none-some, same_Some}
use Rattle.tables.specs.Database.{Database}
use Rattle.tables.specs.Sizes.{Sizes, IsNumber}
use Rattle.tables.specs.Records.{IsRecordKey}
use Rattle.tables.specs.OrderNumbers.{least, numbers_in, next_order}
use Rattle.tables.specs.Rows.{row_at, warehouse_words, district_words, customer_words}
use Rattle.tables.specs.WellFormed.{IsWellFormed, IsDistrictRow, IsCustomerRow, IsLineRow, IsStockRow, orderer}
use Rattle.tables.specs.declared.keys.DistrictKey.{DistrictKey}
use Rattle.tables.specs.declared.keys.CustomerKey.{CustomerKey}
use Rattle.tables.specs.declared.keys.OrderKey.{OrderKey}
use Rattle.tables.specs.declared.keys.LineKey.{LineKey}
use Rattle.tables.specs.declared.keys.StockKey.{StockKey}
use Rattle.tables.specs.declared.records.RecordKey.TheVariants as key
use Rattle.tables.specs.declared.rows.District.{District}
use Rattle.tables.specs.declared.rows.Customer.{Customer}
use Rattle.tables.specs.declared.rows.Order.{Order}
use Rattle.tables.specs.declared.rows.OrderLine.{OrderLine}
use Rattle.tables.specs.declared.rows.Stock.{Stock}
use Rattle.rows.specs.Columns.{warehouse_columns, warehouse_columns_words, AreWarehouseColumns}
use Rattle.rows.specs.Columns.{district_columns, district_columns_words, AreDistrictColumns}
use Rattle.rows.specs.Columns.{customer_columns, customer_columns_words, AreCustomerColumns, IsOrderOfScale}
use Rattle.rows.specs.Columns.{oldest_at, IsOldestOfScale, last_at, IsLastOfScale}
use Rattle.tables.proofs.OrderNumbers.{greatest-within}
use Rattle.tables_laws.proofs.RisingNumbers.{least_row}
use Rattle.rows.specs.declared.columns.WarehouseColumns.{WarehouseColumns}
use Rattle.rows.specs.declared.columns.DistrictColumns.{DistrictColumns}
use Rattle.rows.specs.declared.columns.CustomerColumns.{CustomerColumns}
use Rattle.rows.specs.declared.index.Oldest.{Oldest}
use Rattle.rows.specs.declared.index.Last.{Last}

in_two_steps : {A B C : Type 0} (f : A → B) (g : B → C) (h : A → C) → ((a : A) → h a ≡ g (f a)) → (o : Option A)
    → option_map h o ≡ option_map g (option_map f o)
in_two_steps f g h same None = refl
in_two_steps f g h same (Some a) = ap Some (same a)

-- the row whose columns were found
pub found_row : {A B : Type 0} (f : A → B) (o : Option A) (b : B) → option_map f o ≡ Some b
    → (a : A) × (o ≡ Some a) × (f a ≡ b)
found_row f None b is = absurd (none-some b is)
found_row f (Some a) b is = (a, refl, same_Some (f a) b is)

some_mapped : {A B : Type 0} (f : A → B) (o : Option A) → IsSome o → IsSome (option_map f o)
some_mapped f None some = some
some_mapped f (Some a) some = some

pub warehouse_held : (t : Database) (k : ℕ)
    → row_at t (key.Warehouse k) ≡ option_map warehouse_columns_words (option_map warehouse_columns (get t.warehouses k))
warehouse_held t k =
    in_two_steps warehouse_columns warehouse_columns_words warehouse_words (λ r. refl) (get t.warehouses k)

pub district_held : (t : Database) (k : DistrictKey)
    → row_at t (key.District k) ≡ option_map district_columns_words (option_map district_columns (get t.districts k))
district_held t k =
    in_two_steps district_columns district_columns_words district_words (λ r. refl) (get t.districts k)

pub customer_held : (t : Database) (k : CustomerKey)
    → row_at t (key.Customer k) ≡ option_map customer_columns_words (option_map customer_columns (get t.customers k))
customer_held t k =
    in_two_steps customer_columns customer_columns_words customer_words (λ r. refl) (get t.customers k)

pub district_range : (s : Sizes) (r : District) → IsDistrictRow s r → AreDistrictColumns s (district_columns r)
district_range s r is = record { year_to_date = is.year_to_date; next_order = is.next_order }

pub customer_range : (r : Customer) → IsCustomerRow r → AreCustomerColumns (customer_columns r)
customer_range r is =
    record { balance = is.balance; paid = is.paid; payments = is.payments; deliveries = is.deliveries }

pub warehouse_within : (t : Database) (k : ℕ) (c : WarehouseColumns) → IsWellFormed t
    → IsRecordKey t.scale (key.Warehouse k) → option_map warehouse_columns (get t.warehouses k) ≡ Some c → AreWarehouseColumns c
warehouse_within t k c well _ is =
    let found = found_row warehouse_columns (get t.warehouses k) c is in
    subst AreWarehouseColumns found.2 (well.warehouse_rows k found.0 found.1)

pub district_within : (t : Database) (k : DistrictKey) (c : DistrictColumns) → IsWellFormed t
    → IsRecordKey t.scale (key.District k) → option_map district_columns (get t.districts k) ≡ Some c → AreDistrictColumns t.scale c
district_within t k c well _ is =
    let found = found_row district_columns (get t.districts k) c is in
    subst (AreDistrictColumns t.scale) found.2
    (district_range t.scale found.0 (well.district_rows k found.0 found.1))

pub customer_within : (t : Database) (k : CustomerKey) (c : CustomerColumns) → IsWellFormed t
    → IsRecordKey t.scale (key.Customer k) → option_map customer_columns (get t.customers k) ≡ Some c → AreCustomerColumns c
customer_within t k c well _ is =
    let found = found_row customer_columns (get t.customers k) c is in
    subst AreCustomerColumns found.2 (customer_range found.0 (well.customer_rows k found.0 found.1))

pub order_within : (t : Database) (k : OrderKey) (r : Order) → IsWellFormed t → IsRecordKey t.scale (key.Order k)
    → get t.orders k ≡ Some r → IsOrderOfScale t.scale r
order_within t k r well _ is = record {
  row = well.order_rows k r is;
  customer = ((well.customers (orderer k r)).0 (well.order_customers k r is)).2;
}

pub line_within : (t : Database) (k : LineKey) (r : OrderLine) → IsWellFormed t
    → IsRecordKey t.scale (key.OrderLine k) → get t.lines k ≡ Some r → IsLineRow t.scale r
line_within t k r well _ is = well.line_rows k r is

pub stock_within : (t : Database) (k : StockKey) (r : Stock) → IsWellFormed t → IsRecordKey t.scale (key.Stock k)
    → get t.stock k ≡ Some r → IsStockRow r
stock_within t k r well _ is = well.stock_rows k r is

-- OLDEST is the number of an order of the scale, or D_NEXT_O_ID
pub oldest_within : (t : Database) (k : DistrictKey) (r : Oldest) → IsWellFormed t → IsRecordKey t.scale (key.Oldest k)
    → oldest_at t k ≡ Some r → IsOldestOfScale t.scale r
oldest_within t k r well at_key is =
    subst (λ n. IsNumber (t.scale.orders + 1) n) (ap (λ (q : Oldest). q.order) (same_Some _ r is)) (one_of (least (numbers_in k t.new_orders)) refl)
  where
    next : IsNumber (t.scale.orders + 1) (next_order t k)
    next = of_row (get t.districts k) refl ((well.districts k).1 at_key)
      where
        of_row : (row : Option District) → get t.districts k ≡ row → IsSome row
            → IsNumber (t.scale.orders + 1) (option_map_or (λ r. r.next_order) row 0)
        of_row None found some = absurd (true≢false (sym some))
        of_row (Some r) found some = (well.district_rows k r found).next_order

    one_of : (o : Option ℕ) → least (numbers_in k t.new_orders) ≡ o → IsNumber (t.scale.orders + 1) (unwrap_or o (next_order t k))
    one_of None found = next
    one_of (Some n) found = let row = well.new_orders _ (least_row k t.new_orders n found) in (row.2.0, omega (arith, row.2.1))

-- LAST is the number of an order of the scale, or 0
pub last_within : (t : Database) (k : CustomerKey) (r : Last) → IsWellFormed t → IsRecordKey t.scale (key.Last k)
    → last_at t k ≡ Some r → IsLastOfScale t.scale r
last_within t k r well _ is =
    subst (λ n. n ≤ t.scale.orders) (ap (λ (q : Last). q.order) (same_Some _ r is))
    (greatest-within _ t.scale.orders t.orders (λ j _ found _. (well.orders j (ap is_some found)).2.1))

pub warehouse_there : (t : Database) (k : ℕ) → IsWellFormed t → IsRecordKey t.scale (key.Warehouse k)
    → IsSome (option_map warehouse_columns (get t.warehouses k))
warehouse_there t k well is = some_mapped warehouse_columns (get t.warehouses k) ((well.warehouses k).1 is)

pub district_there : (t : Database) (k : DistrictKey) → IsWellFormed t → IsRecordKey t.scale (key.District k)
    → IsSome (option_map district_columns (get t.districts k))
district_there t k well is = some_mapped district_columns (get t.districts k) ((well.districts k).1 is)

pub customer_there : (t : Database) (k : CustomerKey) → IsWellFormed t → IsRecordKey t.scale (key.Customer k)
    → IsSome (option_map customer_columns (get t.customers k))
customer_there t k well is = some_mapped customer_columns (get t.customers k) ((well.customers k).1 is)

pub stock_there : (t : Database) (k : StockKey) → IsWellFormed t → IsRecordKey t.scale (key.Stock k)
    → IsSome (get t.stock k)
stock_there t k well is = (well.stock k).1 is

pub oldest_there : (t : Database) (k : DistrictKey) → IsWellFormed t → IsRecordKey t.scale (key.Oldest k)
    → IsSome (oldest_at t k)
oldest_there t k well is = refl

pub last_there : (t : Database) (k : CustomerKey) → IsWellFormed t → IsRecordKey t.scale (key.Last k)
    → IsSome (last_at t k)
last_there t k well is = refl

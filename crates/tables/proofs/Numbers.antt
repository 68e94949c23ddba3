-- The keys of a scale and the numbers of records are one to one.
use Rattle.std.proofs.Common.{◌≡◌, ℕ, ◌+◌, ◌-◌, ◌*◌, ◌/◌, ◌%◌, ◌<◌, ◌≤◌, refl, sym, ap, ◌∙◌, subst, arith, zero, suc, mul_comm, mul-zero, not-suc-le-zero}
use Rattle.std.proofs.lemmas.Nat.{div-mul-add, mod-mul-add, mul-add-lt, div-add-mod', div_below, mod_below}
use Rattle.tables.specs.Sizes.{Sizes, IsNumber}
use Rattle.tables.specs.Keys.{IsWarehouseKey, IsDistrictKey, IsCustomerKey, IsOrderKey, IsLineKey, IsStockKey, order_of}
use Rattle.tables.specs.Records.{size, first_number, table_number, IsRowKey, record_number, record_count, table_of, place_of, district_place, customer_place}
use Rattle.tables.specs.Records.{order_place, number_of_key, narrow_count, IsRecordKey, IsNarrowKey, district_at, customer_at, order_at, line_at, stock_at, key_at, table_at, place_at}
use Rattle.tables.specs.Records.{key_of, NumbersNameKeys, NumbersNamePlaces}
use Rattle.tables.specs.declared.limits.TheConstants.{MAX_ORDER_LINES}
use Rattle.tables.proofs.InTurn.{located, found_among, earlier}
use Rattle.tables.specs.declared.keys.DistrictKey.{DistrictKey}
use Rattle.tables.specs.declared.keys.CustomerKey.{CustomerKey}
use Rattle.tables.specs.declared.keys.OrderKey.{OrderKey}
use Rattle.tables.specs.declared.keys.LineKey.{LineKey}
use Rattle.tables.specs.declared.keys.StockKey.{StockKey}
use Rattle.tables.specs.declared.records.Table.{Table}
use Rattle.tables.specs.declared.records.Table.TheVariants as table
use Rattle.tables.specs.declared.records.RecordKey.{RecordKey}
use Rattle.tables.specs.declared.records.RecordKey.TheVariants as key

-- column n, from 1, of row m, from 0, has its place among rows of that width
pub record IsPlaced (rows width m n place : ℕ) : Type 0 where
  pub below : place < rows * width
  pub row : place / width ≡ m
  pub column : place % width + 1 ≡ n

-- each place has a row and a column
pub record IsFilled (rows width place : ℕ) : Type 0 where
  pub row : place / width < rows
  pub column : IsNumber width (place % width + 1)
  pub same : place / width * width + (place % width + 1 - 1) ≡ place

up : (m : ℕ) → 1 ≤ m → m - 1 + 1 ≡ m
up m h = omega arith

down : (n : ℕ) → n + 1 - 1 ≡ n
down n = omega arith

under : (m rows : ℕ) → 1 ≤ m → m ≤ rows → m - 1 < rows
under m rows h k = omega arith

over : (m rows : ℕ) → m < rows → IsNumber rows (m + 1)
over m rows h = (omega arith, omega arith)

placed : (rows width m n : ℕ) → m < rows → IsNumber width n → IsPlaced rows width m n (m * width + (n - 1))
placed rows width m n row column =
    let small = under n width column.0 column.1 in record {
      below = subst (λ q. m * width + (n - 1) < q) (mul_comm width rows) (mul-add-lt m width (n - 1) rows row small);
      row = div-mul-add m width (n - 1) small;
      column = ap (λ q. q + 1) (mod-mul-add m width (n - 1) small) ∙ up n column.0;
    }

wide : (rows width place : ℕ) → place < rows * width → 0 < width
wide rows zero place h = absurd (not-suc-le-zero (subst (λ q. place < q) (mul-zero rows) h))
wide rows (suc width) place h = omega arith

filled : (rows width place : ℕ) → place < rows * width → IsFilled rows width place
filled rows width place h =
    let w = wide rows width place h in record {
      row = div_below place width rows w h;
      column = over (place % width) width (mod_below place width w);
      same = ap (λ q. place / width * width + q) (down (place % width)) ∙ div-add-mod' place width;
    }

module _ (s : Sizes) where
  -- a district
  pub district_there : (k : DistrictKey) → IsDistrictKey s k → (district_place s k.warehouse k.district < s.warehouses * s.districts)
      × (district_at s (district_place s k.warehouse k.district) ≡ k)
  district_there k h =
      let p = placed s.warehouses s.districts (k.warehouse - 1) k.district (under k.warehouse s.warehouses h.0.0 h.0.1) h.1 in
      (p.below, λ i. record { warehouse = (ap (λ q. q + 1) p.row ∙ up k.warehouse h.0.0) i; district = p.column i })

  district_back : (p : ℕ) → p < s.warehouses * s.districts → IsDistrictKey s (district_at s p)
      × (district_place s (district_at s p).warehouse (district_at s p).district ≡ p)
  district_back p h = let f = filled s.warehouses s.districts p h in
      ((over (p / s.districts) s.warehouses f.row, f.column), ap (λ q. q * s.districts + (p % s.districts + 1 - 1)) (down (p / s.districts)) ∙ f.same)

  -- a customer
  pub customer_there : (k : CustomerKey) → IsCustomerKey s k → (customer_place s k < s.warehouses * s.districts * s.customers)
      × (customer_at s (customer_place s k) ≡ k)
  customer_there k h =
      let d = district_there (record { warehouse = k.warehouse; district = k.district }) (h.0, h.1) in
      let p = placed (s.warehouses * s.districts) s.customers (district_place s k.warehouse k.district) k.customer d.0 h.2 in
      let there : district_at s (customer_place s k / s.customers) ≡ record { warehouse = k.warehouse; district = k.district } = ap (district_at s) p.row
      ∙ d.1 in
      (p.below, λ i. record { warehouse = (there i).warehouse; district = (there i).district; customer = p.column i })

  pub customer_back : (p : ℕ) → p < s.warehouses * s.districts * s.customers → IsCustomerKey s (customer_at s p) × (customer_place s (customer_at s p) ≡ p)
  customer_back p h =
      let f = filled (s.warehouses * s.districts) s.customers p h in
      let d = district_back (p / s.customers) f.row in
      ((d.0.0, d.0.1, f.column), ap (λ q. q * s.customers + (p % s.customers + 1 - 1)) d.1 ∙ f.same)

  -- an order
  pub order_there : (k : OrderKey) → IsOrderKey s k → (order_place s k < s.warehouses * s.districts * s.orders) × (order_at s (order_place s k) ≡ k)
  order_there k h =
      let d = district_there (record { warehouse = k.warehouse; district = k.district }) (h.0, h.1) in
      let p = placed (s.warehouses * s.districts) s.orders (district_place s k.warehouse k.district) k.order d.0 h.2 in
      let there : district_at s (order_place s k / s.orders) ≡ record { warehouse = k.warehouse; district = k.district } = ap (district_at s) p.row ∙ d.1 in
      (p.below, λ i. record { warehouse = (there i).warehouse; district = (there i).district; order = p.column i })

  order_back : (p : ℕ) → p < s.warehouses * s.districts * s.orders → IsOrderKey s (order_at s p) × (order_place s (order_at s p) ≡ p)
  order_back p h =
      let f = filled (s.warehouses * s.districts) s.orders p h in
      let d = district_back (p / s.orders) f.row in
      ((d.0.0, d.0.1, f.column), ap (λ q. q * s.orders + (p % s.orders + 1 - 1)) d.1 ∙ f.same)

  -- a line of an order
  pub line_there : (k : LineKey) → IsLineKey s k
      → (order_place s (order_of k) * MAX_ORDER_LINES + (k.line - 1) < s.warehouses * s.districts * s.orders * MAX_ORDER_LINES)
      × (line_at s (order_place s (order_of k) * MAX_ORDER_LINES + (k.line - 1)) ≡ k)
  line_there k h =
      let o = order_there (order_of k) (h.0, h.1, h.2) in
      let p = placed (s.warehouses * s.districts * s.orders) MAX_ORDER_LINES (order_place s (order_of k)) k.line o.0 h.3 in
      let there : order_at s ((order_place s (order_of k) * MAX_ORDER_LINES + (k.line - 1)) / MAX_ORDER_LINES) ≡ order_of k = ap (order_at s) p.row ∙ o.1 in
      (p.below, λ i. record { warehouse = (there i).warehouse; district = (there i).district; order = (there i).order; line = p.column i })

  line_back : (p : ℕ) → p < s.warehouses * s.districts * s.orders * MAX_ORDER_LINES → IsLineKey s (line_at s p)
      × (order_place s (order_of (line_at s p)) * MAX_ORDER_LINES + ((line_at s p).line - 1) ≡ p)
  line_back p h =
      let f = filled (s.warehouses * s.districts * s.orders) MAX_ORDER_LINES p h in
      let o = order_back (p / MAX_ORDER_LINES) f.row in
      ((o.0.0, o.0.1, o.0.2, f.column), ap (λ q. q * MAX_ORDER_LINES + (p % MAX_ORDER_LINES + 1 - 1)) o.1 ∙ f.same)

  -- an item of a warehouse
  pub stock_there : (k : StockKey) → IsStockKey s k → ((k.warehouse - 1) * s.items + (k.item - 1) < s.warehouses * s.items)
      × (stock_at s ((k.warehouse - 1) * s.items + (k.item - 1)) ≡ k)
  stock_there k h =
      let p = placed s.warehouses s.items (k.warehouse - 1) k.item (under k.warehouse s.warehouses h.0.0 h.0.1) h.1 in
      (p.below, λ i. record { warehouse = (ap (λ q. q + 1) p.row ∙ up k.warehouse h.0.0) i; item = p.column i })

  stock_back : (p : ℕ) → p < s.warehouses * s.items → IsStockKey s (stock_at s p) × (((stock_at s p).warehouse - 1) * s.items + ((stock_at s p).item - 1) ≡ p)
  stock_back p h = let f = filled s.warehouses s.items p h in
      ((over (p / s.items) s.warehouses f.row, f.column), ap (λ q. q * s.items + (p % s.items + 1 - 1)) (down (p / s.items)) ∙ f.same)

  pub warehouse_there : (w : ℕ) → IsWarehouseKey s w → (w - 1 < s.warehouses) × (w - 1 + 1 ≡ w)
  warehouse_there w h = (under w s.warehouses h.0 h.1, up w h.0)

module _ (s : Sizes) where
  -- a key has its place, and that place has the key
  key_there : (k : RecordKey) → IsRecordKey s k → (place_of s k < size s (table_of k)) × (key_at s (table_of k) (place_of s k) ≡ k)
  key_there (key.Warehouse w) h = let c = warehouse_there s w h in (c.0, ap key.Warehouse c.1)
  key_there (key.District k) h = let c = district_there s k h in (c.0, ap key.District c.1)
  key_there (key.Customer k) h = let c = customer_there s k h in (c.0, ap key.Customer c.1)
  key_there (key.NewOrder k) h = let c = order_there s k h in (c.0, ap key.NewOrder c.1)
  key_there (key.Order k) h = let c = order_there s k h in (c.0, ap key.Order c.1)
  key_there (key.OrderLine k) h = let c = line_there s k h in (c.0, ap key.OrderLine c.1)
  key_there (key.Stock k) h = let c = stock_there s k h in (c.0, ap key.Stock c.1)
  key_there (key.Oldest k) h = let c = district_there s k h in (c.0, ap key.Oldest c.1)
  key_there (key.Last k) h = let c = customer_there s k h in (c.0, ap key.Last c.1)
  key_there (key.CustomerData k) h = let c = customer_there s k h in (c.0, ap key.CustomerData c.1)

  -- a place has its key, and that key has the place
  key_back : (t : Table) (p : ℕ) → p < size s t → IsRecordKey s (key_at s t p) × (table_of (key_at s t p) ≡ t) × (place_of s (key_at s t p) ≡ p)
  key_back table.Warehouse p h = (over p s.warehouses h, refl, down p)
  key_back table.District p h = let r = district_back s p h in (r.0, refl, r.1)
  key_back table.Customer p h = let r = customer_back s p h in (r.0, refl, r.1)
  key_back table.History p h = absurd (not-suc-le-zero h)
  key_back table.NewOrder p h = let r = order_back s p h in (r.0, refl, r.1)
  key_back table.Order p h = let r = order_back s p h in (r.0, refl, r.1)
  key_back table.OrderLine p h = let r = line_back s p h in (r.0, refl, r.1)
  key_back table.Item p h = absurd (not-suc-le-zero h)
  key_back table.Stock p h = let r = stock_back s p h in (r.0, refl, r.1)
  key_back table.Oldest p h = let r = district_back s p h in (r.0, refl, r.1)
  key_back table.Last p h = let r = customer_back s p h in (r.0, refl, r.1)
  key_back table.CustomerData p h = let r = customer_back s p h in (r.0, refl, r.1)

  -- what a number names
  pub named : (k : RecordKey) → IsRecordKey s k → (number_of_key s k < record_count s) × (key_of s (number_of_key s k) ≡ k)
  named k h =
      let c = key_there k h in
      let l = located s (table_of k) (place_of s k) c.0 in
      (l.below, (λ i. key_at s (l.at.table i) (l.at.place i)) ∙ c.1)

  -- each number names a key
  pub numbered : (n : ℕ) → n < record_count s → IsRecordKey s (key_of s n) × (number_of_key s (key_of s n) ≡ n)
  numbered n h =
      let f = found_among s n h in
      let k = key_back (table_at s n) (place_at s n) f.within in
      (k.0, (λ i. record_number s (k.1 i) (k.2 i)) ∙ f.same)

  pub one_to_one : NumbersNameKeys s
  one_to_one = (named, numbered)

  -- the narrow records come first
  pub of_narrow : (k : RecordKey) → IsNarrowKey s k → IsRecordKey s k
  of_narrow (key.Warehouse w) h = h
  of_narrow (key.District k) h = h
  of_narrow (key.Customer k) h = h
  of_narrow (key.NewOrder k) h = h
  of_narrow (key.Order k) h = h
  of_narrow (key.OrderLine k) h = h
  of_narrow (key.Stock k) h = h
  of_narrow (key.Oldest k) h = h
  of_narrow (key.Last k) h = h
  of_narrow (key.CustomerData k) h = absurd h

  narrow_below : (k : RecordKey) → IsNarrowKey s k → place_of s k < size s (table_of k) → number_of_key s k < narrow_count s
  narrow_below (key.Warehouse w) h p = omega arith
  narrow_below (key.District k) h p = omega arith
  narrow_below (key.Customer k) h p = omega arith
  narrow_below (key.NewOrder k) h p = omega arith
  narrow_below (key.Order k) h p = omega arith
  narrow_below (key.OrderLine k) h p = omega arith
  narrow_below (key.Stock k) h p = omega arith
  narrow_below (key.Oldest k) h p = omega arith
  narrow_below (key.Last k) h p = omega arith
  narrow_below (key.CustomerData k) h p = absurd h

  pub narrow_named : (k : RecordKey) → IsNarrowKey s k → number_of_key s k < narrow_count s
  narrow_named k h = narrow_below k h (key_there k (of_narrow k h)).0

  narrow_at_place : (t : Table) (p : ℕ) → table_number t < table_number table.CustomerData → IsRecordKey s (key_at s t p) → IsNarrowKey s (key_at s t p)
  narrow_at_place table.Warehouse p h is = is
  narrow_at_place table.District p h is = is
  narrow_at_place table.Customer p h is = is
  narrow_at_place table.History p h is = is
  narrow_at_place table.NewOrder p h is = is
  narrow_at_place table.Order p h is = is
  narrow_at_place table.OrderLine p h is = is
  narrow_at_place table.Item p h is = is
  narrow_at_place table.Stock p h is = is
  narrow_at_place table.Oldest p h is = is
  narrow_at_place table.Last p h is = is
  narrow_at_place table.CustomerData p h is = absurd (omega (arith, h))

  pub narrow_among : (n : ℕ) → n < narrow_count s → n < record_count s
  narrow_among n h = omega arith

  pub narrow_numbered : (n : ℕ) → n < narrow_count s → IsNarrowKey s (key_of s n)
  narrow_numbered n h =
      let all = narrow_among n h in
      narrow_at_place (table_at s n) (place_at s n) (earlier s n table.CustomerData all h) (numbered n all).0

  -- the wide records come behind them, in the order of their places
  pub wide_named : (p : ℕ) → p < size s table.CustomerData → key_of s (narrow_count s + p) ≡ key.CustomerData (customer_at s p)
  wide_named p h = let l = located s table.CustomerData p h in λ i. key_at s (l.at.table i) (l.at.place i)

  apart : (t u : Table) (p q : ℕ) → p < size s t → q < size s u → (record_number s t p < record_count s)
      × (record_number s t p ≡ record_number s u q → (t ≡ u) × (p ≡ q))
  apart t u p q hp hq =
      let k = located s t p hp in
      let l = located s u q hq in
      (k.below, λ same. (sym k.at.table ∙ ap (table_at s) same ∙ l.at.table, sym k.at.place ∙ ap (place_at s) same ∙ l.at.place))

  pub places : NumbersNamePlaces s
  places = (apart, λ n h. let f = found_among s n h in (table_at s n, place_at s n, f.within, f.same))

  row_at_place : (t : Table) (p : ℕ) → table_number t < table_number table.Oldest → IsRowKey (key_at s t p)
  row_at_place table.Warehouse p h = tt
  row_at_place table.District p h = tt
  row_at_place table.Customer p h = tt
  row_at_place table.History p h = tt
  row_at_place table.NewOrder p h = tt
  row_at_place table.Order p h = tt
  row_at_place table.OrderLine p h = tt
  row_at_place table.Item p h = tt
  row_at_place table.Stock p h = tt
  row_at_place table.Oldest p h = absurd (omega (arith, h))
  row_at_place table.Last p h = absurd (omega (arith, h))
  row_at_place table.CustomerData p h = absurd (omega (arith, h))

  -- the records before those of OLDEST and LAST are rows
  pub row_numbered : (n : ℕ) → n < record_count s → n < first_number s table.Oldest → IsRowKey (key_of s n)
  row_numbered n h k = row_at_place (table_at s n) (place_at s n) (earlier s n table.Oldest h k)

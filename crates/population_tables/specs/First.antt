-- The tables that a database begins with, of either kind: rows that nothing is drawn for, and rows that are drawn.
use Rattle.std.specs.Prelude.{◌≡◌, ℕ, ◌≤◌, true, Some, IsSome}
use Rattle.std.specs.Option.{option_map_or}
use Rattle.std.specs.FinMap.{FinMap, get}
use Rattle.std.specs.declared.cmp.Ordering.{Ordering}
use Rattle.customer_data.specs.Text.{first_text}
use Rattle.tables.specs.Sizes.{Sizes, IsNumber}
use Rattle.tables.specs.Keys.{order_cmp, order_of, IsWarehouseKey, IsDistrictKey, IsCustomerKey, IsItemKey, IsStockKey}
use Rattle.tables.specs.Database.{Database}
use Rattle.tables.specs.declared.keys.OrderKey.{OrderKey}
use Rattle.tables.specs.declared.keys.LineKey.{LineKey}
use Rattle.tables.specs.declared.rows.Warehouse.{Warehouse}
use Rattle.tables.specs.declared.rows.District.{District}
use Rattle.tables.specs.declared.rows.Customer.{Customer}
use Rattle.tables.specs.declared.rows.Order.{Order}
use Rattle.tables.specs.declared.rows.OrderLine.{OrderLine}
use Rattle.tables.specs.declared.rows.Item.{Item}
use Rattle.tables.specs.declared.rows.Stock.{Stock}
use Rattle.population_tables.specs.Plain.{plain_warehouse, plain_district, plain_customer, plain_order, plain_line}
use Rattle.population_tables.specs.Plain.{plain_item, plain_stock, plain_history, IsPlainOrderKey, IsPlainNewOrderKey}
use Rattle.population_tables.specs.Seeded.{IsSeededItem, IsSeededWarehouse, IsSeededStock, IsSeededDistrict}
use Rattle.population_tables.specs.Seeded.{IsSeededCustomer, IsSeededOrder, IsSeededLine}

pub data Kind : Type 0 where
  Plain : Kind
  Seeded : Kind

-- which row may stand at a key
abbrev pub IsFirstItem : Kind → ℕ → Item → Type 0
IsFirstItem Plain i r = r ≡ plain_item i
IsFirstItem Seeded i r = IsSeededItem r

abbrev pub IsFirstWarehouse : Kind → Sizes → Warehouse → Type 0
IsFirstWarehouse Plain s r = r ≡ plain_warehouse s
IsFirstWarehouse Seeded s r = IsSeededWarehouse s r

abbrev pub IsFirstStock : Kind → Stock → Type 0
IsFirstStock Plain r = r ≡ plain_stock
IsFirstStock Seeded r = IsSeededStock r

abbrev pub IsFirstDistrict : Kind → Sizes → District → Type 0
IsFirstDistrict Plain s r = r ≡ plain_district s
IsFirstDistrict Seeded s r = IsSeededDistrict s r

abbrev pub IsFirstCustomer : Kind → ℕ → Customer → Type 0
IsFirstCustomer Plain c r = r ≡ plain_customer c
IsFirstCustomer Seeded c r = IsSeededCustomer c r

abbrev pub IsFirstOrder : Kind → Sizes → ℕ → Order → Type 0
IsFirstOrder Plain s o r = r ≡ plain_order s o
IsFirstOrder Seeded s o r = IsSeededOrder s o r

abbrev pub IsFirstLine : Kind → Sizes → LineKey → OrderLine → Type 0
IsFirstLine Plain s k r = r ≡ plain_line s k.warehouse k.order k.line
IsFirstLine Seeded s k r = IsSeededLine s k.warehouse k.order r

-- the table has rows exactly at these keys, and at each one of which P holds
pub record HasRowsAt {K X : Type 0} {R : K → K → Ordering} (IsKey : K → Type 0) (P : K → X → Type 0)
    (m : FinMap R X) : Type 0 where
  pub rows : (k : K) → IsKey k → (r : X) × (get m k ≡ Some r) × P k r
  pub only : (k : K) → IsSome (get m k) → IsKey k

-- O_OL_CNT of an order, and 0 where there is none
abbrev pub first_line_count : FinMap order_cmp Order → OrderKey → ℕ
first_line_count orders k = option_map_or (λ r. r.line_count) (get orders k) 0

-- the keys of ORDER-LINE: as many lines of each order as its O_OL_CNT says
abbrev pub IsFirstLineKey : Sizes → FinMap order_cmp Order → LineKey → Type 0
IsFirstLineKey s orders k = IsPlainOrderKey s (order_of k) × IsNumber (first_line_count orders (order_of k)) k.line

-- the nine tables of a kind, of a scale. The keys, but those of ORDER-LINE, and HISTORY are the plain population's
pub record AreFirstTables (kind : Kind) (s : Sizes) (t : Database) : Type 0 where
  pub scale : t.scale ≡ s
  pub keeps_texts : t.keeps_texts ≡ true
  pub warehouses : HasRowsAt (IsWarehouseKey s) (λ w. IsFirstWarehouse kind s) t.warehouses
  pub districts : HasRowsAt (IsDistrictKey s) (λ k. IsFirstDistrict kind s) t.districts
  pub customers : HasRowsAt (IsCustomerKey s) (λ k. IsFirstCustomer kind k.customer) t.customers
  pub texts : HasRowsAt (IsCustomerKey s) (λ k text. text ≡ first_text) t.texts
  pub history : t.history ≡ plain_history s
  pub new_orders : HasRowsAt (IsPlainNewOrderKey s) (λ k r. r ≡ record {}) t.new_orders
  pub orders : HasRowsAt (IsPlainOrderKey s) (λ k. IsFirstOrder kind s k.order) t.orders
  pub lines : HasRowsAt (IsFirstLineKey s t.orders) (IsFirstLine kind s) t.lines
  pub items : HasRowsAt (IsItemKey s) (IsFirstItem kind) t.items
  pub stock : HasRowsAt (IsStockKey s) (λ k. IsFirstStock kind) t.stock

-- the nine tables of a seeded population
abbrev pub IsSeeded : Sizes → Database → Type 0
IsSeeded s t = AreFirstTables Seeded s t

-- the limits of a scale by which such tables are well-formed and consistent and have room
pub record IsFit (s : Sizes) : Type 0 where
  pub districts : s.districts ≤ 10
  pub some_customers : 1 ≤ s.customers
  pub customers : s.customers ≤ 3000
  pub orders : s.customers ≤ s.orders
  pub items : 5 ≤ s.items

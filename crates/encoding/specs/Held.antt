-- Tables by what their records hold: which rows stand where, of a population's columns that never change and of the
-- words of each record.
use Rattle.std.specs.Prelude.{◌≡◌, ◌⊎◌, ℕ, ◌<◌, ◌≤◌, Option, Some, List}
use Rattle.std.specs.Option.{option_map}
use Rattle.std.specs.FinMap.{FinMap, get}
use Rattle.std.specs.declared.cmp.Ordering.{Ordering}
use Rattle.customer_data.specs.Text.{IsData}
use Rattle.customer_data.specs.Words.{data_words}
use Rattle.tables.specs.Sizes.{Sizes}
use Rattle.tables.specs.Keys.{IsWarehouseKey, IsDistrictKey, IsCustomerKey, IsOrderKey, IsLineKey, IsStockKey}
use Rattle.tables.specs.Maps.{RowsWithin, EachRow}
use Rattle.tables.specs.WellFormed.{IsMoney, IsDistrictRow, IsCustomerRow, IsLineRow, IsStockRow}
use Rattle.tables.specs.Database.{Database}
use Rattle.tables.specs.Records.{first_number, narrow_count, record_count, number_of_key}
use Rattle.tables.specs.Rows.{warehouse_words, district_words, customer_words, new_order_words, order_words, line_words}
use Rattle.tables.specs.Rows.{stock_words}
use Rattle.tables.specs.declared.keys.DistrictKey.{DistrictKey}
use Rattle.tables.specs.declared.keys.CustomerKey.{CustomerKey}
use Rattle.tables.specs.declared.rows.Warehouse.{Warehouse}
use Rattle.tables.specs.declared.rows.District.{District}
use Rattle.tables.specs.declared.rows.Customer.{Customer}
use Rattle.tables.specs.declared.records.Table.TheVariants as table
use Rattle.tables.specs.declared.records.RecordKey.{RecordKey}
use Rattle.tables.specs.declared.records.RecordKey.TheVariants as key
use Rattle.rows.specs.Columns.{IsOrderOfScale}

-- how many narrow records have rows: the index records come after them, and C_DATA behind these
abbrev pub row_count : Sizes → ℕ
row_count s = first_number s table.Oldest

-- the record of a table's row, C_DATA's among them: all but the index records
abbrev pub IsTableRecord : Sizes → ℕ → Type 0
IsTableRecord s n = (n < row_count s) ⊎ ((narrow_count s ≤ n) × (n < record_count s))

-- what the records of keys hold, where `values` tells it by number
abbrev pub by_key : Sizes → (ℕ → Option (List ℕ)) → RecordKey → Option (List ℕ)
by_key s values k = values (number_of_key s k)

-- a table whose keys are those of `IsKey` or some of them, each row as `IsIn` says, and whose record of each key holds
-- its value: the row's words, or nothing where there is no row
pub record IsTableOf {K X : Type 0} {R : K → K → Ordering} (IsKey : K → Type 0) (IsIn : K → X → Type 0)
    (words : X → List ℕ) (value : K → Option (List ℕ)) (m : FinMap R X) : Type 0 where
  pub within : RowsWithin IsKey m
  pub each : EachRow IsIn m
  pub rows : (k : K) → IsKey k → option_map words (get m k) ≡ value k

-- rows within their ranges, whose columns that never change are those of the population's row
pub record IsWarehouseOf (t0 : Database) (w : ℕ) (r : Warehouse) : Type 0 where
  pub range : IsMoney r.year_to_date
  pub tax : option_map (λ r. r.tax) (get t0.warehouses w) ≡ Some r.tax

pub record IsDistrictOf (t0 : Database) (k : DistrictKey) (r : District) : Type 0 where
  pub range : IsDistrictRow t0.scale r
  pub tax : option_map (λ r. r.tax) (get t0.districts k) ≡ Some r.tax

pub record IsCustomerOf (t0 : Database) (k : CustomerKey) (r : Customer) : Type 0 where
  pub range : IsCustomerRow r
  pub first_name : option_map (λ r. r.first_name) (get t0.customers k) ≡ Some r.first_name
  pub last_name : option_map (λ r. r.last_name) (get t0.customers k) ≡ Some r.last_name
  pub credit : option_map (λ r. r.credit) (get t0.customers k) ≡ Some r.credit
  pub discount : option_map (λ r. r.discount) (get t0.customers k) ≡ Some r.discount

-- tables of this population whose records hold these values. HISTORY, which has no records, may be any
pub record AreTables (t0 : Database) (values : RecordKey → Option (List ℕ)) (t : Database) : Type 0 where
  pub scale : t.scale ≡ t0.scale
  pub keeps : t.keeps_texts ≡ t0.keeps_texts
  pub items : t.items ≡ t0.items
  pub warehouses : IsTableOf (IsWarehouseKey t0.scale) (IsWarehouseOf t0) warehouse_words
      (λ k. values (key.Warehouse k)) t.warehouses
  pub districts : IsTableOf (IsDistrictKey t0.scale) (IsDistrictOf t0) district_words (λ k. values (key.District k))
      t.districts
  pub customers : IsTableOf (IsCustomerKey t0.scale) (IsCustomerOf t0) customer_words (λ k. values (key.Customer k))
      t.customers
  pub texts : IsTableOf (IsCustomerKey t0.scale) (λ k text. IsData text) data_words (λ k. values (key.CustomerData k))
      t.texts
  pub new_orders : IsTableOf (IsOrderKey t0.scale) (λ k r. Unit {0}) new_order_words (λ k. values (key.NewOrder k))
      t.new_orders
  pub orders : IsTableOf (IsOrderKey t0.scale) (λ k r. IsOrderOfScale t0.scale r) order_words (λ k. values (key.Order k))
      t.orders
  pub lines : IsTableOf (IsLineKey t0.scale) (λ k r. IsLineRow t0.scale r) line_words (λ k. values (key.OrderLine k))
      t.lines
  pub stock : IsTableOf (IsStockKey t0.scale) (λ k r. IsStockRow r) stock_words (λ k. values (key.Stock k)) t.stock

-- Columns that are further from zero than commits can have taken them.
use Rattle.std.specs.Prelude.{◌≡◌, ◌≤◌, ℕ, Some, List, ◌++◌, codes}
use Rattle.std.specs.FinMap.{get}
use Rattle.std.specs.Fmt.{decimal}
use Rattle.tables.specs.Database.{Database}
use Rattle.tables.specs.Reach.{IsNear, count_by, money_by}
use Rattle.tables.specs.declared.rows.Customer.{Customer as CustomerRow}
use Rattle.tables.specs.declared.rows.District.{District as DistrictRow}
use Rattle.tables.specs.declared.rows.Stock.{Stock as StockRow}
use Rattle.tables.specs.declared.rows.Warehouse.{Warehouse as WarehouseRow}
use Rattle.program_recovery.specs.declared.far.Beyond.{Beyond}
use Rattle.program_recovery.specs.declared.far.CustomerColumn.{CustomerColumn}
use Rattle.program_recovery.specs.declared.far.CustomerColumn.TheVariants as customer
use Rattle.program_recovery.specs.declared.far.FarColumn.{FarColumn}
use Rattle.program_recovery.specs.declared.far.FarColumn.TheVariants.{Warehouse, District, Customer, Stock}
use Rattle.program_recovery.specs.declared.far.StockColumn.{StockColumn}
use Rattle.program_recovery.specs.declared.far.StockColumn.TheVariants as stock

-- a column of a customer's row, or of a stock's, is so far from zero at most
abbrev pub customer_is_near : ℕ → ℕ → CustomerColumn → CustomerRow → Type 0
customer_is_near money count customer.Balance r = IsNear money r.balance
customer_is_near money count customer.YearToDate r = IsNear money r.paid
customer_is_near money count customer.Payments r = r.payments ≤ count
customer_is_near money count customer.Deliveries r = r.deliveries ≤ count

abbrev pub stock_is_near : ℕ → StockColumn → StockRow → Type 0
stock_is_near count stock.YearToDate r = r.year_to_date ≤ count
stock_is_near count stock.Orders r = r.orders ≤ count
stock_is_near count stock.RemoteOrders r = r.remote_orders ≤ count

-- the row is there, and its column is further from zero than so
abbrev pub IsFar : ℕ → ℕ → Database → FarColumn → Type 0
IsFar money count t (Warehouse k) =
    (r : WarehouseRow) × (get t.warehouses k ≡ Some r) × (IsNear money r.year_to_date → ⊥)
IsFar money count t (District k) =
    (r : DistrictRow) × (get t.districts k ≡ Some r) × (IsNear money r.year_to_date → ⊥)
IsFar money count t (Customer k column) =
    (r : CustomerRow) × (get t.customers k ≡ Some r) × (customer_is_near money count column r → ⊥)
IsFar money count t (Stock k column) =
    (r : StockRow) × (get t.stock k ≡ Some r) × (stock_is_near count column r → ⊥)

-- further than n commits can have taken it, and this is told of as many
pub record IsBeyond (n : ℕ) (t : Database) (beyond : Beyond) : Type 0 where
  pub far : IsFar (money_by n) (count_by n) t beyond.column
  pub commits : beyond.commits ≡ n

abbrev pub customer_column_name : CustomerColumn → List ℕ
customer_column_name customer.Balance = codes "C_BALANCE"
customer_column_name customer.YearToDate = codes "C_YTD_PAYMENT"
customer_column_name customer.Payments = codes "C_PAYMENT_CNT"
customer_column_name customer.Deliveries = codes "C_DELIVERY_CNT"

abbrev pub stock_column_name : StockColumn → List ℕ
stock_column_name stock.YearToDate = codes "S_YTD"
stock_column_name stock.Orders = codes "S_ORDER_CNT"
stock_column_name stock.RemoteOrders = codes "S_REMOTE_CNT"

-- what is told of it: `W_YTD of warehouse 1 is beyond what 3 commits can make`
abbrev pub far_text : FarColumn → List ℕ → List ℕ
far_text (Warehouse k) behind = codes "W_YTD of warehouse " ++ (decimal k ++ behind)
far_text (District k) behind =
    codes "D_YTD of district " ++ (decimal k.warehouse ++ (codes " " ++ (decimal k.district ++ behind)))
far_text (Customer k column) behind = customer_column_name column ++ (codes " of customer " ++ (decimal k.warehouse
    ++ (codes " " ++ (decimal k.district ++ (codes " " ++ (decimal k.customer ++ behind))))))
far_text (Stock k column) behind = stock_column_name column
    ++ (codes " of stock " ++ (decimal k.warehouse ++ (codes " " ++ (decimal k.item ++ behind))))

abbrev pub beyond_text : Beyond → List ℕ
beyond_text b = far_text b.column (codes " is beyond what " ++ (decimal b.commits ++ codes " commits can make"))

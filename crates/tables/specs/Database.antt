-- The nine tables as finite maps and a list (TPC-C 1.3), with C_DATA of CUSTOMER in a map of its own.
use Rattle.std.specs.Prelude.{ℕ, Bool, true, List, []}
use Rattle.std.specs.Ordering.{nat_cmp}
use Rattle.std.specs.FinMap.{FinMap, from_entries, empty}
use Rattle.tables.specs.Sizes.{Sizes}
use Rattle.tables.specs.Keys.{district_cmp, customer_cmp, order_cmp, line_cmp, stock_cmp}
use Rattle.tables.specs.declared.Tables.{Tables}
use Rattle.tables.specs.declared.rows.Warehouse.{Warehouse}
use Rattle.tables.specs.declared.rows.District.{District}
use Rattle.tables.specs.declared.rows.Customer.{Customer}
use Rattle.tables.specs.declared.rows.History.{History}
use Rattle.tables.specs.declared.rows.NewOrder.{NewOrder}
use Rattle.tables.specs.declared.rows.Order.{Order}
use Rattle.tables.specs.declared.rows.OrderLine.{OrderLine}
use Rattle.tables.specs.declared.rows.Item.{Item}
use Rattle.tables.specs.declared.rows.Stock.{Stock}

pub record Database : Type 0 where
  pub scale : Sizes
  -- whether Payments change C_DATA (TPC-C 2.5.2.2); no transaction changes this
  pub keeps_texts : Bool
  pub warehouses : FinMap nat_cmp Warehouse
  pub districts : FinMap district_cmp District
  pub customers : FinMap customer_cmp Customer
  -- C_DATA of each customer
  pub texts : FinMap customer_cmp (List ℕ)
  pub history : List History
  pub new_orders : FinMap order_cmp NewOrder
  pub orders : FinMap order_cmp Order
  pub lines : FinMap line_cmp OrderLine
  pub items : FinMap nat_cmp Item
  pub stock : FinMap stock_cmp Stock

-- what `Tables` hold; Payments change their C_DATA
abbrev pub database : Tables → Database
database t = record {
  scale = t.scale;
  keeps_texts = true;
  warehouses = from_entries t.warehouses.entries;
  districts = from_entries t.districts.entries;
  customers = from_entries t.customers.entries;
  texts = from_entries t.texts.entries;
  history = t.history.items;
  new_orders = from_entries t.new_orders.entries;
  orders = from_entries t.orders.entries;
  lines = from_entries t.lines.entries;
  items = from_entries t.items.entries;
  stock = from_entries t.stock.entries;
}

-- no rows
abbrev pub empty_database : Sizes → Database
empty_database s = record {
  scale = s;
  keeps_texts = true;
  warehouses = empty;
  districts = empty;
  customers = empty;
  texts = empty;
  history = [];
  new_orders = empty;
  orders = empty;
  lines = empty;
  items = empty;
  stock = empty;
}

-- The plain population: which row stands at which key (clause 4.3.3.1 draws most of these columns; here none is drawn).
use Rattle.std.specs.Prelude.{◌≡◌, ℕ, zero, suc, ◌+◌, ◌-◌, ◌*◌, ◌/◌, ◌%◌, pos, neg_ℤ, Bool, true, cond, nat_le}
use Rattle.std.specs.Prelude.{◌==◌}
use Rattle.std.specs.Prelude.{Some, None, IsSome, List, [], ◌∷◌, ◌++◌, map}
use Rattle.std.specs.List.{flat_map}
use Rattle.std.specs.FinMap.{FinMap, get}
use Rattle.std.specs.declared.cmp.Ordering.{Ordering}
use Rattle.customer_data.specs.Text.{first_text}
use Rattle.tables.specs.Sizes.{Sizes, IsBetween, IsNumber}
use Rattle.tables.specs.Keys.{IsWarehouseKey, IsDistrictKey, IsCustomerKey, IsItemKey, IsStockKey}
use Rattle.tables.specs.Database.{Database}
use Rattle.tables.specs.declared.keys.OrderKey.{OrderKey}
use Rattle.tables.specs.declared.keys.LineKey.{LineKey}
use Rattle.tables.specs.declared.rows.Credit.TheVariants.{Good, Bad}
use Rattle.tables.specs.declared.rows.Warehouse.{Warehouse}
use Rattle.tables.specs.declared.rows.District.{District}
use Rattle.tables.specs.declared.rows.Customer.{Customer}
use Rattle.tables.specs.declared.rows.History.{History}
use Rattle.tables.specs.declared.rows.Order.{Order}
use Rattle.tables.specs.declared.rows.OrderLine.{OrderLine}
use Rattle.tables.specs.declared.rows.Item.{Item}
use Rattle.tables.specs.declared.rows.Stock.{Stock}

-- the numbers from 1 to n
abbrev pub numbers : ℕ → List ℕ
numbers zero = []
numbers (suc n) = numbers n ++ suc n ∷ []

-- each customer has paid 10.00, and the sums of D_YTD and W_YTD are of those payments
abbrev pub plain_warehouse : Sizes → Warehouse
plain_warehouse s = record { tax = 1000; year_to_date = pos (s.districts * (s.customers * 1000)) }

abbrev pub plain_district : Sizes → District
plain_district s = record { tax = 500; year_to_date = pos (s.customers * 1000); next_order = s.customers + 1 }

abbrev pub plain_customer : ℕ → Customer
plain_customer c = record {
  first_name = 9999 - c;
  last_name = (c - 1) % 1000;
  credit = cond (c % 10 == 0) Bad Good;
  discount = 1000;
  balance = neg_ℤ (pos 1000);
  paid = pos 1000;
  payments = 1;
  deliveries = 0;
}

-- the payment of a customer, to its own district
abbrev pub plain_history_row : ℕ → ℕ → ℕ → History
plain_history_row w d c = record {
  customer = c;
  customer_district = d;
  customer_warehouse = w;
  district = d;
  warehouse = w;
  date = 1;
  amount = pos 1000;
}

-- one payment a customer: those of a district, of a warehouse, and of all, in the order of warehouse, district and
-- customer
abbrev pub district_payments : Sizes → ℕ → ℕ → List History
district_payments s w d = map (λ c. plain_history_row w d c) (numbers s.customers)

abbrev pub warehouse_payments : Sizes → ℕ → List History
warehouse_payments s w = flat_map (λ d. district_payments s w d) (numbers s.districts)

abbrev pub plain_history : Sizes → List History
plain_history s = flat_map (λ w. warehouse_payments s w) (numbers s.warehouses)

-- of the orders, as many as customers, the first seven tenths are delivered
abbrev pub delivered_orders : Sizes → ℕ
delivered_orders s = 7 * s.customers / 10

abbrev pub is_delivered : Sizes → ℕ → Bool
is_delivered s o = nat_le o (delivered_orders s)

-- order o is customer o's
abbrev pub plain_order : Sizes → ℕ → Order
plain_order s o = record {
  customer = o;
  entry_date = 1;
  carrier = cond (is_delivered s o) (Some 1) None;
  line_count = 5;
  all_local = true;
}

-- line n of order o in warehouse w is of item n
abbrev pub plain_line : Sizes → ℕ → ℕ → ℕ → OrderLine
plain_line s w o n = record {
  item = n;
  supply_warehouse = w;
  delivery_date = cond (is_delivered s o) (Some 1) None;
  quantity = 5;
  amount = cond (is_delivered s o) (pos 0) (pos (n * 100));
}

abbrev pub plain_item : ℕ → Item
plain_item i = record { price = pos (((i - 1) % 100 + 1) * 100) }

abbrev pub plain_stock : Stock
plain_stock = record { quantity = 50; year_to_date = 0; orders = 0; remote_orders = 0 }

-- the keys of ORDER and of ORDER-LINE, and those of NEW-ORDER: the orders that aren't delivered
abbrev pub IsPlainOrderKey : Sizes → OrderKey → Type 0
IsPlainOrderKey s k = IsNumber s.warehouses k.warehouse × IsNumber s.districts k.district × IsNumber s.customers k.order

abbrev pub IsPlainNewOrderKey : Sizes → OrderKey → Type 0
IsPlainNewOrderKey s k = IsNumber s.warehouses k.warehouse × IsNumber s.districts k.district
    × IsBetween (delivered_orders s + 1) s.customers k.order

abbrev pub IsPlainLineKey : Sizes → LineKey → Type 0
IsPlainLineKey s k = IsNumber s.warehouses k.warehouse × IsNumber s.districts k.district × IsNumber s.customers k.order
    × IsNumber 5 k.line

-- the table has rows exactly at these keys, and at each this row
pub record IsTable {K X : Type 0} {R : K → K → Ordering} (IsKey : K → Type 0) (row : K → X) (m : FinMap R X) : Type 0
  where
    pub rows : (k : K) → IsKey k → get m k ≡ Some (row k)
    pub only : (k : K) → IsSome (get m k) → IsKey k

-- the nine tables of the plain population of a scale
pub record IsPlain (s : Sizes) (t : Database) : Type 0 where
  pub scale : t.scale ≡ s
  pub keeps_texts : t.keeps_texts ≡ true
  pub warehouses : IsTable (IsWarehouseKey s) (λ w. plain_warehouse s) t.warehouses
  pub districts : IsTable (IsDistrictKey s) (λ k. plain_district s) t.districts
  pub customers : IsTable (IsCustomerKey s) (λ k. plain_customer k.customer) t.customers
  pub texts : IsTable (IsCustomerKey s) (λ k. first_text) t.texts
  pub history : t.history ≡ plain_history s
  pub new_orders : IsTable (IsPlainNewOrderKey s) (λ k. record {}) t.new_orders
  pub orders : IsTable (IsPlainOrderKey s) (λ k. plain_order s k.order) t.orders
  pub lines : IsTable (IsPlainLineKey s) (λ k. plain_line s k.warehouse k.order k.line) t.lines
  pub items : IsTable (IsItemKey s) plain_item t.items
  pub stock : IsTable (IsStockKey s) (λ k. plain_stock) t.stock

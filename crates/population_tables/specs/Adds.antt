-- What the functions that fill the tables add to them. A row is added where its key passes a test.
use Rattle.std.specs.Prelude.{◌≡◌, ℕ, ◌+◌, Bool, true, false, nat_le, nat_lt, ◌==◌, ◌&&◌, Option, Some, List, ◌++◌}
use Rattle.std.specs.Ordering.{nat_cmp}
use Rattle.std.specs.FinMap.{FinMap, get}
use Rattle.std.specs.declared.cmp.Ordering.{Ordering}
use Rattle.customer_data.specs.Text.{first_text}
use Rattle.tables.specs.Sizes.{Sizes}
use Rattle.tables.specs.Keys.{district_cmp, customer_cmp, order_cmp, line_cmp, stock_cmp, order_of}
use Rattle.tables.specs.Database.{Database}
use Rattle.tables.specs.declared.keys.OrderKey.{OrderKey}
use Rattle.tables.specs.declared.keys.LineKey.{LineKey}
use Rattle.tables.specs.declared.rows.Customer.{Customer}
use Rattle.tables.specs.declared.rows.History.{History}
use Rattle.tables.specs.declared.rows.NewOrder.{NewOrder}
use Rattle.tables.specs.declared.rows.Order.{Order}
use Rattle.tables.specs.declared.rows.OrderLine.{OrderLine}
use Rattle.tables.specs.declared.rows.Item.{Item}
use Rattle.tables.specs.declared.rows.Stock.{Stock}
use Rattle.population_tables.specs.Plain.{delivered_orders}
use Rattle.population_tables.specs.First.{Kind, IsFirstItem, IsFirstWarehouse, IsFirstStock, IsFirstDistrict, IsFirstCustomer, IsFirstOrder}
use Rattle.population_tables.specs.First.{IsFirstLine, first_line_count}

-- whether k is this number
abbrev pub is : ℕ → ℕ → Bool
is number k = k == number

-- whether k is one of the numbers from low on and below end
abbrev pub is_in : ℕ → ℕ → ℕ → Bool
is_in low end k = nat_le low k && nat_lt k end

-- whether k is one of the numbers from 1 to n
abbrev pub is_number : ℕ → ℕ → Bool
is_number n k = is_in 1 (n + 1) k

-- whether a district is this one, one of a warehouse's below a number, one of a warehouse's, or one of the warehouses'
-- below a number
abbrev pub is_at : ℕ → ℕ → ℕ → ℕ → Bool
is_at w d x y = is w x && is d y

abbrev pub is_below : ℕ → ℕ → ℕ → ℕ → Bool
is_below w end x y = is w x && is_in 1 end y

abbrev pub is_of : Sizes → ℕ → ℕ → ℕ → Bool
is_of s w x y = is w x && is_number s.districts y

abbrev pub is_before : Sizes → ℕ → ℕ → ℕ → Bool
is_before s end x y = is_in 1 end x && is_number s.districts y

-- a row of which P holds where one is added, and else what was there
abbrev pub Added : {X : Type 0} → (X → Type 0) → Bool → Option X → Option X → Type 0
Added {X} P true old new = (r : X) × (new ≡ Some r) × P r
Added {X} P false old new = new ≡ old

pub record AddsRows {K X : Type 0} (R : K → K → Ordering) (is_added : K → Bool) (P : K → X → Type 0)
    (old new : FinMap R X) : Type 0 where
  pub rows : (k : K) → Added (P k) (is_added k) (get old k) (get new k)

abbrev pub AddsItems : Kind → (ℕ → Bool) → FinMap nat_cmp Item → FinMap nat_cmp Item → Type 0
AddsItems kind in_item = AddsRows nat_cmp in_item (IsFirstItem kind)

abbrev pub AddsStock : Kind → (ℕ → Bool) → (ℕ → Bool) → FinMap stock_cmp Stock → FinMap stock_cmp Stock → Type 0
AddsStock kind in_warehouse in_item =
    AddsRows stock_cmp (λ k. in_warehouse k.warehouse && in_item k.item) (λ k. IsFirstStock kind)

abbrev pub AddsCustomers : Kind → (ℕ → ℕ → Bool) → (ℕ → Bool) → FinMap customer_cmp Customer
    → FinMap customer_cmp Customer → Type 0
AddsCustomers kind in_district in_customer =
    AddsRows customer_cmp (λ k. in_district k.warehouse k.district && in_customer k.customer)
    (λ k. IsFirstCustomer kind k.customer)

abbrev pub AddsTexts : (ℕ → ℕ → Bool) → (ℕ → Bool) → FinMap customer_cmp (List ℕ) → FinMap customer_cmp (List ℕ)
    → Type 0
AddsTexts in_district in_customer =
    AddsRows customer_cmp (λ k. in_district k.warehouse k.district && in_customer k.customer)
    (λ k text. text ≡ first_text)

abbrev pub AddsNewOrders : (ℕ → ℕ → Bool) → (ℕ → Bool) → FinMap order_cmp NewOrder → FinMap order_cmp NewOrder → Type 0
AddsNewOrders in_district in_order =
    AddsRows order_cmp (λ k. in_district k.warehouse k.district && in_order k.order) (λ k r. r ≡ record {})

-- lines of orders that pass a test, with numbers that do
abbrev pub AddsLines : Kind → Sizes → (OrderKey → Bool) → (LineKey → Bool) → FinMap line_cmp OrderLine
    → FinMap line_cmp OrderLine → Type 0
AddsLines kind s in_order in_line = AddsRows line_cmp (λ k. in_order (order_of k) && in_line k) (IsFirstLine kind s)

-- whether an order has a line of this number, by its O_OL_CNT
abbrev pub has_line : FinMap order_cmp Order → LineKey → Bool
has_line orders k = is_number (first_line_count orders (order_of k)) k.line

-- whether an order is this one, and a line one of these numbers
abbrev pub is_order_at : OrderKey → OrderKey → Bool
is_order_at k q = is k.warehouse q.warehouse && is k.district q.district && is k.order q.order

abbrev pub is_line_in : (ℕ → Bool) → LineKey → Bool
is_line_in in_line k = in_line k.line

-- orders, each with its lines
pub record AddsOrders (kind : Kind) (s : Sizes) (in_order : OrderKey → Bool) (old new : FinMap order_cmp Order)
    (old_lines new_lines : FinMap line_cmp OrderLine) : Type 0 where
  pub orders : AddsRows order_cmp in_order (λ k. IsFirstOrder kind s k.order) old new
  pub lines : AddsLines kind s in_order (has_line new) old_lines new_lines

-- the orders of the districts that pass a test
abbrev pub is_order_in : (ℕ → ℕ → Bool) → (ℕ → Bool) → OrderKey → Bool
is_order_in in_district in_order k = in_district k.warehouse k.district && in_order k.order

-- the rows of the districts that pass a test, with these rows of HISTORY
pub record AddsDistricts (kind : Kind) (s : Sizes) (in_district : ℕ → ℕ → Bool) (payments : List History)
    (old new : Database) : Type 0 where
  pub scale : new.scale ≡ old.scale
  pub keeps_texts : new.keeps_texts ≡ old.keeps_texts
  pub districts : AddsRows district_cmp (λ k. in_district k.warehouse k.district) (λ k. IsFirstDistrict kind s)
      old.districts new.districts
  pub customers : AddsCustomers kind in_district (is_number s.customers) old.customers new.customers
  pub texts : AddsTexts in_district (is_number s.customers) old.texts new.texts
  pub history : new.history ≡ old.history ++ payments
  pub new_orders : AddsNewOrders in_district (is_in (delivered_orders s + 1) (s.customers + 1)) old.new_orders
      new.new_orders
  pub orders : AddsOrders kind s (is_order_in in_district (is_number s.customers)) old.orders new.orders old.lines
      new.lines

-- the other tables as they were
pub record KeepsOtherTables (old new : Database) : Type 0 where
  pub warehouses : new.warehouses ≡ old.warehouses
  pub items : new.items ≡ old.items
  pub stock : new.stock ≡ old.stock

-- the rows of the warehouses whose numbers pass a test, of their stock, and of their districts
pub record AddsWarehouses (kind : Kind) (s : Sizes) (in_warehouse : ℕ → Bool) (in_district : ℕ → ℕ → Bool)
    (payments : List History) (old new : Database) : Type 0 where
  pub warehouses : AddsRows nat_cmp in_warehouse (λ w. IsFirstWarehouse kind s) old.warehouses new.warehouses
  pub stock : AddsStock kind in_warehouse (is_number s.items) old.stock new.stock
  pub districts : AddsDistricts kind s in_district payments old new
  pub items : new.items ≡ old.items

-- New-Order (TPC-C 2.4): the ranges of its input, what it does to the tables, and its reply.
use Rattle.std.specs.Prelude.{ℕ, ◌+◌, ◌-◌, ◌≤◌, nat_le, ℤ, pos, ◌+ℤ◌, ◌*ℤ◌, ◌==◌, cond, Option, None, Some, is_some}
use Rattle.std.specs.Prelude.{List, [], ◌∷◌, length, fold, All}
use Rattle.std.specs.List.{list_all}
use Rattle.std.specs.Option.{option_map_or}
use Rattle.std.specs.FinMap.{FinMap, get, insert}
use Rattle.money.specs.Total.{total_amount}
use Rattle.tables.specs.Sizes.{Sizes, IsBetween, IsNumber}
use Rattle.tables.specs.Keys.{line_cmp, stock_cmp, is_district, is_stock}
use Rattle.tables.specs.Maps.{update_where}
use Rattle.tables.specs.OrderNumbers.{next_order}
use Rattle.tables.specs.Database.{Database}
use Rattle.tables.specs.declared.limits.TheConstants.{MAX_DATE, MIN_ORDER_LINES, MAX_ORDER_LINES, MAX_REQUESTED_ITEM}
use Rattle.tables.specs.declared.limits.TheConstants.{MAX_QUANTITY, MIN_STOCK, RESTOCK}
use Rattle.tables.specs.declared.keys.DistrictKey.{DistrictKey}
use Rattle.tables.specs.declared.keys.CustomerKey.{CustomerKey}
use Rattle.tables.specs.declared.keys.OrderKey.{OrderKey}
use Rattle.tables.specs.declared.keys.LineKey.{LineKey}
use Rattle.tables.specs.declared.keys.StockKey.{StockKey}
use Rattle.tables.specs.declared.rows.District.{District}
use Rattle.tables.specs.declared.rows.Order.{Order}
use Rattle.tables.specs.declared.rows.OrderLine.{OrderLine}
use Rattle.tables.specs.declared.rows.Stock.{Stock}
use Rattle.tables.specs.declared.new_order.RequestedLine.{RequestedLine}
use Rattle.tables.specs.declared.new_order.NewOrderInput.{NewOrderInput}
use Rattle.tables.specs.declared.new_order.SuppliedLine.{SuppliedLine}
use Rattle.tables.specs.declared.new_order.NewOrderReply.{NewOrderReply}

-- the ranges of its input (TPC-C 2.4.1). An item may be one that isn't in ITEM
pub record IsRequestedLine (s : Sizes) (l : RequestedLine) : Type 0 where
  pub item : IsNumber MAX_REQUESTED_ITEM l.item
  pub supply_warehouse : IsNumber s.warehouses l.supply_warehouse
  pub quantity : IsNumber MAX_QUANTITY l.quantity

pub record IsNewOrder (s : Sizes) (x : NewOrderInput) : Type 0 where
  pub date : IsBetween 1 MAX_DATE x.date
  pub warehouse : IsNumber s.warehouses x.warehouse
  pub district : IsNumber s.districts x.district
  pub customer : IsNumber s.customers x.customer
  pub line_count : IsBetween MIN_ORDER_LINES MAX_ORDER_LINES (length x.lines)
  pub lines : All (IsRequestedLine s) x.lines

-- the first item of some lines that isn't in ITEM (TPC-C 2.4.2.3)
abbrev pub first_missing : Database → List RequestedLine → Option ℕ
first_missing t [] = None
first_missing t (l ∷ ls) = cond (is_some (get t.items l.item)) (first_missing t ls) (Some l.item)

-- the district that takes the order, and the customer that orders
abbrev pub home : NewOrderInput → DistrictKey
home x = record { warehouse = x.warehouse; district = x.district }

abbrev pub buyer : NewOrderInput → CustomerKey
buyer x = record { warehouse = x.warehouse; district = x.district; customer = x.customer }

-- the order's key: its number is D_NEXT_O_ID
abbrev pub new_key : Database → NewOrderInput → OrderKey
new_key t x = record { warehouse = x.warehouse; district = x.district; order = next_order t (home x) }

-- the order's number is within the order cap
abbrev pub HasNumber : Database → NewOrderInput → Type 0
HasNumber t x = next_order t (home x) ≤ t.scale.orders

-- D_NEXT_O_ID raised by 1
abbrev pub numbered_district : District → District
numbered_district r = record r { next_order = r.next_order + 1 }

-- the order's row: not delivered, and O_ALL_LOCAL exactly where its warehouse supplies each line
abbrev pub order_row : NewOrderInput → Order
order_row x = record {
  customer = x.customer;
  entry_date = x.date;
  carrier = None;
  line_count = length x.lines;
  all_local = list_all (λ l. l.supply_warehouse == x.warehouse) x.lines;
}

-- I_PRICE, and OL_AMOUNT: the price times the quantity. Here as elsewhere a column of a missing row counts as 0
abbrev pub price : Database → ℕ → ℤ
price t i = option_map_or (λ r. r.price) (get t.items i) (pos 0)

abbrev pub line_amount : Database → RequestedLine → ℤ
line_amount t l = pos l.quantity *ℤ price t l.item

-- a line's key and row: not delivered
abbrev pub line_key : OrderKey → ℕ → LineKey
line_key k n = record { warehouse = k.warehouse; district = k.district; order = k.order; line = n }

abbrev pub line_row : Database → RequestedLine → OrderLine
line_row t l = record {
  item = l.item;
  supply_warehouse = l.supply_warehouse;
  delivery_date = None;
  quantity =
      l.quantity;
  amount = line_amount t l;
}

-- ORDER-LINE with rows for these lines of an order, numbered from n on
abbrev pub with_lines : Database → OrderKey → ℕ → List RequestedLine → FinMap line_cmp OrderLine
    → FinMap line_cmp OrderLine
with_lines t k n [] m = m
with_lines t k n (l ∷ ls) m = with_lines t k (n + 1) ls (insert m (line_key k n) (line_row t l))

-- the stock of a line
abbrev pub stock_key : RequestedLine → StockKey
stock_key l = record { warehouse = l.supply_warehouse; item = l.item }

-- a stock after a line of an order of warehouse w (TPC-C 2.4.2.2): S_QUANTITY falls by the line's quantity, and rises
-- by 91 where less than 10 would be left
abbrev pub drawn : ℕ → RequestedLine → Stock → Stock
drawn w l r = record {
  quantity = cond (nat_le (l.quantity + MIN_STOCK) r.quantity) (r.quantity - l.quantity)
      (r.quantity + RESTOCK - l.quantity);
  year_to_date = r.year_to_date + l.quantity;
  orders = r.orders + 1;
  remote_orders = r.remote_orders + cond (l.supply_warehouse == w) 0 1;
}

-- STOCK after a line, and after lines in their order: an item may come twice
abbrev pub draw : ℕ → FinMap stock_cmp Stock → RequestedLine → FinMap stock_cmp Stock
draw w m l = update_where (is_stock l.supply_warehouse l.item) (drawn w l) m

abbrev pub after_draws : ℕ → List RequestedLine → FinMap stock_cmp Stock → FinMap stock_cmp Stock
after_draws w ls m = fold (draw w) m ls

-- the tables after it (TPC-C 2.4.2.2)
abbrev pub after_new_order : Database → NewOrderInput → Database
after_new_order t x = record t {
  districts = update_where (is_district x.warehouse x.district) numbered_district t.districts;
  new_orders = insert t.new_orders (new_key t x) (record {});
  orders = insert t.orders (new_key t x) (order_row x);
  lines = with_lines t (new_key t x) 1 x.lines t.lines;
  stock = after_draws x.warehouse x.lines t.stock;
}

-- a line of its reply, with S_QUANTITY in these rows of STOCK
abbrev pub supplied_line : Database → FinMap stock_cmp Stock → RequestedLine → SuppliedLine
supplied_line t m l = record {
  item = l.item;
  supply_warehouse = l.supply_warehouse;
  stock = option_map_or (λ r. r.quantity) (get m (stock_key l)) 0;
  amount = line_amount t l;
}

-- the lines of its reply, each with S_QUANTITY after that line
abbrev pub supplied_lines : Database → ℕ → FinMap stock_cmp Stock → List RequestedLine → List SuppliedLine
supplied_lines t w m [] = []
supplied_lines t w m (l ∷ ls) = supplied_line t (draw w m l) l ∷ supplied_lines t w (draw w m l) ls

-- the sum of OL_AMOUNT
abbrev pub lines_amount : Database → List RequestedLine → ℤ
lines_amount t ls = fold (λ a l. a +ℤ line_amount t l) (pos 0) ls

-- C_DISCOUNT, W_TAX and D_TAX
abbrev pub discount : Database → CustomerKey → ℕ
discount t k = option_map_or (λ r. r.discount) (get t.customers k) 0

abbrev pub warehouse_tax : Database → ℕ → ℕ
warehouse_tax t w = option_map_or (λ r. r.tax) (get t.warehouses w) 0

abbrev pub district_tax : Database → DistrictKey → ℕ
district_tax t k = option_map_or (λ r. r.tax) (get t.districts k) 0

-- its reply (TPC-C 2.4.3.3), with the total amount of 2.4.2.2
abbrev pub new_order_reply : Database → NewOrderInput → NewOrderReply
new_order_reply t x = record {
  warehouse = x.warehouse;
  district = x.district;
  order = next_order t (home x);
  customer = x.customer;
  amount = lines_amount t x.lines;
  total = total_amount (lines_amount t x.lines) (discount t (buyer x)) (warehouse_tax t x.warehouse)
      (district_tax t (home x));
  lines = supplied_lines t x.warehouse t.stock x.lines;
}

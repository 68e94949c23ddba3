-- The tables' keys (TPC-C 1.3): their order, which of them a scale has, and which rows they name.
use Rattle.std.specs.Prelude.{ℕ, Bool, ◌==◌, ◌&&◌}
use Rattle.std.specs.Ordering.{nat_cmp, ordering_then}
use Rattle.std.specs.declared.cmp.Ordering.{Ordering}
use Rattle.tables.specs.Sizes.{Sizes, IsNumber}
use Rattle.tables.specs.declared.limits.TheConstants.{MAX_ORDER_LINES}
use Rattle.tables.specs.declared.keys.DistrictKey.{DistrictKey}
use Rattle.tables.specs.declared.keys.CustomerKey.{CustomerKey}
use Rattle.tables.specs.declared.keys.OrderKey.{OrderKey}
use Rattle.tables.specs.declared.keys.LineKey.{LineKey}
use Rattle.tables.specs.declared.keys.StockKey.{StockKey}

-- the orders of the keys: column by column
abbrev pub district_cmp : DistrictKey → DistrictKey → Ordering
district_cmp a b = ordering_then (nat_cmp a.warehouse b.warehouse) (nat_cmp a.district b.district)

abbrev pub customer_cmp : CustomerKey → CustomerKey → Ordering
customer_cmp a b = ordering_then (nat_cmp a.warehouse b.warehouse)
    (ordering_then (nat_cmp a.district b.district) (nat_cmp a.customer b.customer))

abbrev pub order_cmp : OrderKey → OrderKey → Ordering
order_cmp a b = ordering_then (nat_cmp a.warehouse b.warehouse)
    (ordering_then (nat_cmp a.district b.district) (nat_cmp a.order b.order))

abbrev pub line_cmp : LineKey → LineKey → Ordering
line_cmp a b = ordering_then (nat_cmp a.warehouse b.warehouse)
    (ordering_then (nat_cmp a.district b.district) (ordering_then (nat_cmp a.order b.order) (nat_cmp a.line b.line)))

abbrev pub stock_cmp : StockKey → StockKey → Ordering
stock_cmp a b = ordering_then (nat_cmp a.warehouse b.warehouse) (nat_cmp a.item b.item)

-- the keys that a scale has
abbrev pub IsWarehouseKey : Sizes → ℕ → Type 0
IsWarehouseKey s w = IsNumber s.warehouses w

abbrev pub IsDistrictKey : Sizes → DistrictKey → Type 0
IsDistrictKey s k = IsNumber s.warehouses k.warehouse × IsNumber s.districts k.district

abbrev pub IsCustomerKey : Sizes → CustomerKey → Type 0
IsCustomerKey s k = IsNumber s.warehouses k.warehouse × IsNumber s.districts k.district
    × IsNumber s.customers k.customer

abbrev pub IsOrderKey : Sizes → OrderKey → Type 0
IsOrderKey s k = IsNumber s.warehouses k.warehouse × IsNumber s.districts k.district × IsNumber s.orders k.order

abbrev pub IsLineKey : Sizes → LineKey → Type 0
IsLineKey s k = IsNumber s.warehouses k.warehouse × IsNumber s.districts k.district × IsNumber s.orders k.order
    × IsNumber MAX_ORDER_LINES k.line

abbrev pub IsItemKey : Sizes → ℕ → Type 0
IsItemKey s i = IsNumber s.items i

abbrev pub IsStockKey : Sizes → StockKey → Type 0
IsStockKey s k = IsNumber s.warehouses k.warehouse × IsNumber s.items k.item

-- whether a key is the key of this district, customer, order or stock
abbrev pub is_district : ℕ → ℕ → DistrictKey → Bool
is_district w d k = (w == k.warehouse) && (d == k.district)

abbrev pub is_customer : ℕ → ℕ → ℕ → CustomerKey → Bool
is_customer w d c k = (w == k.warehouse) && (d == k.district) && (c == k.customer)

abbrev pub is_order : ℕ → ℕ → ℕ → OrderKey → Bool
is_order w d o k = (w == k.warehouse) && (d == k.district) && (o == k.order)

abbrev pub is_stock : ℕ → ℕ → StockKey → Bool
is_stock w i k = (w == k.warehouse) && (i == k.item)

-- the district of a customer, and of an order
abbrev pub district_of_customer : CustomerKey → DistrictKey
district_of_customer k = record { warehouse = k.warehouse; district = k.district }

abbrev pub district_of_order : OrderKey → DistrictKey
district_of_order k = record { warehouse = k.warehouse; district = k.district }

-- a customer and an order of a district
abbrev pub customer_key : DistrictKey → ℕ → CustomerKey
customer_key k c = record { warehouse = k.warehouse; district = k.district; customer = c }

abbrev pub order_key : DistrictKey → ℕ → OrderKey
order_key k o = record { warehouse = k.warehouse; district = k.district; order = o }

-- the order that a line belongs to
abbrev pub order_of : LineKey → OrderKey
order_of k = record { warehouse = k.warehouse; district = k.district; order = k.order }

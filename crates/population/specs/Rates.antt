-- The rates of customers, districts and warehouses, each list in the order of its keys.
use Rattle.std.specs.Prelude.{ℕ, List, map}
use Rattle.std.specs.List.{range_with_len}
use Rattle.tables.specs.Records.{size, customer_at, district_at}
use Rattle.tables.specs.NewOrder.{discount, district_tax, warehouse_tax}
use Rattle.tables.specs.Database.{Database}
use Rattle.tables.specs.declared.records.Table.TheVariants as table

-- C_DISCOUNT of each customer of the scale
abbrev pub discounts_of : Database → List ℕ
discounts_of t = map (λ p. discount t (customer_at t.scale p)) (range_with_len 0 (size t.scale table.Customer))

-- D_TAX of each district
abbrev pub district_taxes_of : Database → List ℕ
district_taxes_of t = map (λ p. district_tax t (district_at t.scale p)) (range_with_len 0 (size t.scale table.District))

-- W_TAX of each warehouse
abbrev pub warehouse_taxes_of : Database → List ℕ
warehouse_taxes_of t = map (warehouse_tax t) (range_with_len 1 t.scale.warehouses)

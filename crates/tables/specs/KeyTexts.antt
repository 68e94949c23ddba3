-- The text of a key: its numbers, parted by one space each.
use Rattle.std.specs.Prelude.{ℕ, List, [], ◌∷◌, map}
use Rattle.std.specs.Fmt.{decimal}
use Rattle.std.specs.List.{join_with_byte}
use Rattle.tables.specs.declared.keys.DistrictKey.{DistrictKey}
use Rattle.tables.specs.declared.keys.CustomerKey.{CustomerKey}
use Rattle.tables.specs.declared.keys.OrderKey.{OrderKey}
use Rattle.tables.specs.declared.keys.LineKey.{LineKey}
use Rattle.tables.specs.declared.keys.StockKey.{StockKey}

abbrev pub numbers_text : List ℕ → List ℕ
numbers_text numbers = join_with_byte 32 (map decimal numbers)

abbrev pub district_text : DistrictKey → List ℕ
district_text k = numbers_text (k.warehouse ∷ k.district ∷ [])

abbrev pub customer_text : CustomerKey → List ℕ
customer_text k = numbers_text (k.warehouse ∷ k.district ∷ k.customer ∷ [])

abbrev pub order_text : OrderKey → List ℕ
order_text k = numbers_text (k.warehouse ∷ k.district ∷ k.order ∷ [])

abbrev pub line_text : LineKey → List ℕ
line_text k = numbers_text (k.warehouse ∷ k.district ∷ k.order ∷ k.line ∷ [])

abbrev pub stock_text : StockKey → List ℕ
stock_text k = numbers_text (k.warehouse ∷ k.item ∷ [])

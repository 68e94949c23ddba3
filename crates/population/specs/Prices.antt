-- The prices of the items.
use Rattle.std.specs.Prelude.{ℕ, ℤ, Option, List, map}
use Rattle.std.specs.List.{range_with_len}
use Rattle.std.specs.Option.{option_map}
use Rattle.std.specs.FinMap.{get}
use Rattle.tables.specs.Database.{Database}

-- I_PRICE of an item, where there is one
abbrev pub price_of : Database → ℕ → Option ℤ
price_of t i = option_map (λ r. r.price) (get t.items i)

-- of each item of the scale, from 1 on
abbrev pub prices_of : Database → List (Option ℤ)
prices_of t = map (price_of t) (range_with_len 1 t.scale.items)

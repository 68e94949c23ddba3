-- Stock-Level (TPC-C 2.8): the ranges of its input, and its reply. It changes nothing.
use Rattle.std.specs.Prelude.{ℕ, ◌+◌, ◌-◌, nat_le, Bool, false, ◌==◌, ◌&&◌, length}
use Rattle.std.specs.List.{filter, list_any, range_with_len}
use Rattle.std.specs.Option.{option_map_or}
use Rattle.std.specs.FinMap.{get, entries}
use Rattle.tables.specs.Sizes.{Sizes, IsBetween, IsNumber}
use Rattle.tables.specs.Keys.{is_district}
use Rattle.tables.specs.Database.{Database}
use Rattle.tables.specs.OrderNumbers.{next_order}
use Rattle.tables.specs.declared.limits.TheConstants.{MAX_DATE, MIN_THRESHOLD, MAX_THRESHOLD, RECENT_ORDERS}
use Rattle.tables.specs.declared.keys.DistrictKey.{DistrictKey}
use Rattle.tables.specs.declared.keys.LineKey.{LineKey}
use Rattle.tables.specs.declared.rows.OrderLine.{OrderLine}
use Rattle.tables.specs.declared.stock_level.StockLevelInput.{StockLevelInput}
use Rattle.tables.specs.declared.stock_level.StockLevelReply.{StockLevelReply}

-- the ranges of its input (TPC-C 2.8.1)
pub record IsStockLevel (s : Sizes) (x : StockLevelInput) : Type 0 where
  pub date : IsBetween 1 MAX_DATE x.date
  pub warehouse : IsNumber s.warehouses x.warehouse
  pub district : IsNumber s.districts x.district
  pub threshold : IsBetween MIN_THRESHOLD MAX_THRESHOLD x.threshold

-- whether a line is one of a district's last 20 orders, whose numbers are those from D_NEXT_O_ID - 20 to D_NEXT_O_ID -
-- 1
abbrev pub is_recent : Database → DistrictKey → LineKey → Bool
is_recent t d k = is_district k.warehouse k.district d && nat_le (next_order t d - RECENT_ORDERS) k.order
    && nat_le (k.order + 1) (next_order t d)

-- whether such a line is of this item
abbrev pub is_sold : Database → DistrictKey → ℕ → Bool
is_sold t d i = list_any (λ (e : LineKey × OrderLine). is_recent t d e.0 && (e.1.item == i)) (entries t.lines)

-- whether S_QUANTITY of an item in a warehouse is below the threshold
abbrev pub is_low : Database → ℕ → ℕ → ℕ → Bool
is_low t w threshold i = option_map_or (λ r. nat_le (r.quantity + 1) threshold)
    (get t.stock (record { warehouse = w; item = i })) false

-- how many items are both: an item counts once, however many lines it has
abbrev pub low_items : Database → StockLevelInput → ℕ
low_items t x = length (filter (λ i. is_sold t (record { warehouse = x.warehouse; district = x.district }) i
    && is_low t x.warehouse x.threshold i) (range_with_len 1 t.scale.items))

-- its reply (TPC-C 2.8.2.2)
abbrev pub stock_level_reply : Database → StockLevelInput → StockLevelReply
stock_level_reply t x = record {
  warehouse = x.warehouse;
  district = x.district;
  threshold = x.threshold;
  low =
      low_items t x;
}

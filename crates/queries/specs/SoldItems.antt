-- How far a Stock-Level has come through a district's last orders (TPC-C 2.8.2.2).
use Rattle.std.specs.Prelude.{◌≡◌, ℕ, ◌+◌, nat_le, Bool, ◌==◌, ◌&&◌, ◌||◌, List, map}
use Rattle.std.specs.List.{list_any, range_with_len}
use Rattle.std.specs.Option.{option_map_or}
use Rattle.std.specs.FinMap.{entries, get}
use Rattle.tables.specs.Keys.{is_district, order_key}
use Rattle.tables.specs.Database.{Database}
use Rattle.tables.specs.declared.keys.DistrictKey.{DistrictKey}
use Rattle.tables.specs.declared.keys.OrderKey.{OrderKey}
use Rattle.tables.specs.declared.keys.LineKey.{LineKey}
use Rattle.tables.specs.declared.rows.OrderLine.{OrderLine}
use Rattle.readset.specs.Reads.{ReadSetView}
use Rattle.readset.specs.Explains.{IsCandidate}

-- O_OL_CNT of an order, or 0 where there is no such order
abbrev pub order_line_count : Database → OrderKey → ℕ
order_line_count t k = option_map_or (λ r. r.line_count) (get t.orders k) 0

-- of so many orders of a district, from this number on
abbrev pub order_line_counts : Database → DistrictKey → ℕ → ℕ → List ℕ
order_line_counts t d first count = map (λ o. order_line_count t (order_key d o)) (range_with_len first count)

-- whether a line is of a district's orders from the first on and before order o, or one of the first m of order o
abbrev pub is_looked_at : DistrictKey → ℕ → ℕ → ℕ → LineKey → Bool
is_looked_at d first o m k = is_district k.warehouse k.district d
    && ((nat_le first k.order && nat_le (k.order + 1) o) || ((k.order == o) && nat_le k.line m))

-- these are the items of those lines, at all tables at which the transaction may have read
abbrev pub AreItems : Database → DistrictKey → ℕ → ℕ → ℕ → ReadSetView → List ℕ → Type 0
AreItems t0 d first o m reads items = (t : Database) → IsCandidate t0 reads t → (i : ℕ)
    → list_any (λ (e : LineKey × OrderLine). is_looked_at d first o m e.0 && (e.1.item == i))
    (entries t.lines) ≡ list_any (λ j. j == i) items

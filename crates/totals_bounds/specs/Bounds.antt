-- The least and the greatest order numbers of tables: what the consistency conditions (TPC-C 3.3.2) compare, by district.
use Rattle.std.specs.Prelude.{◌≡◌, ℕ, ◌*◌, List, replicate, slice_index, unwrap_or}
use Rattle.tables.specs.Sizes.{Sizes}
use Rattle.tables.specs.Keys.{IsDistrictKey}
use Rattle.tables.specs.OrderNumbers.{least, greatest, numbers_in}
use Rattle.tables.specs.Records.{district_place}
use Rattle.tables.specs.Database.{Database}
use Rattle.tables.specs.declared.keys.DistrictKey.{DistrictKey}

-- order numbers, each a list by place of its district, and the scale that says which places there are
pub record BoundsView : Type 0 where
  pub scale : Sizes
  pub greatest_order : List ℕ
  pub least_waiting : List ℕ
  pub greatest_waiting : List ℕ

-- the bounds of a scale's districts where there are no rows
abbrev pub no_bounds : Sizes → BoundsView
no_bounds s = record {
  scale = s;
  greatest_order = replicate (s.warehouses * s.districts) 0;
  least_waiting = replicate (s.warehouses * s.districts) 0;
  greatest_waiting = replicate (s.warehouses * s.districts) 0;
}

-- each of those order numbers is what its conditions speak of
pub record AreBounds (s : Sizes) (t : Database) (v : BoundsView) : Type 0 where
  -- 3.3.2.2: the greatest O_ID, 0 where there is none
  pub greatest_order : (k : DistrictKey) → IsDistrictKey s k
      → slice_index v.greatest_order (district_place s k.warehouse k.district)
      ≡ greatest (numbers_in k t.orders)
  -- 3.3.2.2, 3.3.2.3: the least NO_O_ID, 0 where there is none, and the greatest
  pub least_waiting : (k : DistrictKey) → IsDistrictKey s k
      → slice_index v.least_waiting (district_place s k.warehouse k.district)
      ≡ unwrap_or (least (numbers_in k t.new_orders)) 0
  pub greatest_waiting : (k : DistrictKey) → IsDistrictKey s k
      → slice_index v.greatest_waiting (district_place s k.warehouse k.district)
      ≡ greatest (numbers_in k t.new_orders)

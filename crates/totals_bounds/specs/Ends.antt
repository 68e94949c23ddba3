-- Least and greatest numbers of rows, by the records that hold them. No public clause cites it.
use Rattle.std.specs.Prelude.{◌≡◌, ℕ, ◌+◌, ◌-◌, ◌*◌, ◌≤◌, Bool, true, false, Option, is_some, List, length, slice_index}
use Rattle.std.specs.Ordering.{nat_cmp}
use Rattle.std.specs.Map.{lookup}
use Rattle.std.specs.BTreeMap.{is_at}
use Rattle.tables.specs.Sizes.{Sizes, IsNumber}
use Rattle.tables.specs.Keys.{IsDistrictKey}
use Rattle.tables.specs.Records.{number_of_key, district_place}
use Rattle.tables.specs.declared.keys.DistrictKey.{DistrictKey}
use Rattle.tables.specs.declared.keys.OrderKey.{OrderKey}
use Rattle.tables.specs.declared.records.RecordKey.TheVariants as key
use Rattle.totals_bounds.specs.Bounds.{BoundsView}

-- there is a place for each district
pub record HasDistrictPlaces (v : BoundsView) : Type 0 where
  pub greatest_order : length v.greatest_order ≡ v.scale.warehouses * v.scale.districts
  pub least_waiting : length v.least_waiting ≡ v.scale.warehouses * v.scale.districts
  pub greatest_waiting : length v.greatest_waiting ≡ v.scale.warehouses * v.scale.districts

-- the record of the row of number n, where that of number 1 is this
abbrev pub numbered : ℕ → ℕ → ℕ
numbered first n = first + (n - 1)

-- whether that row is there
abbrev pub is_there : (ℕ → Option (List ℕ)) → ℕ → ℕ → Bool
is_there held first n = is_some (held (numbered first n))

-- whether a record is among these
abbrev pub is_among : List (ℕ × Option (List ℕ)) → ℕ → Bool
is_among values n = is_some (lookup (is_at (nat_cmp n)) values)

-- the least and the greatest of the numbers up to a cap that are there, 0 where none is: right but for numbers that are
-- left to be looked at
pub record IsLeast (cap : ℕ) (there left : ℕ → Bool) (least : ℕ) : Type 0 where
  pub within : (n : ℕ) → IsNumber cap n → there n ≡ true → left n ≡ false → IsNumber n least
  pub found : 1 ≤ least → left least ≡ false → there least ≡ true
  pub limit : least ≤ cap

pub record IsGreatest (cap : ℕ) (there left : ℕ → Bool) (greatest : ℕ) : Type 0 where
  pub within : (n : ℕ) → IsNumber cap n → there n ≡ true → left n ≡ false → n ≤ greatest
  pub found : 1 ≤ greatest → left greatest ≡ false → there greatest ≡ true
  pub limit : greatest ≤ cap

-- an order of a district, and the records of its first ones
abbrev pub order_in : DistrictKey → ℕ → OrderKey
order_in k n = record { warehouse = k.warehouse; district = k.district; order = n }

abbrev pub first_order : Sizes → DistrictKey → ℕ
first_order s k = number_of_key s (key.Order (order_in k 1))

abbrev pub first_new_order : Sizes → DistrictKey → ℕ
first_new_order s k = number_of_key s (key.NewOrder (order_in k 1))

-- the bounds of the districts of a scale, by what records hold, right but for records that are left
pub record AreEnds (s : Sizes) (held : ℕ → Option (List ℕ)) (left : ℕ → Bool) (v : BoundsView) : Type 0 where
  pub greatest_order : (k : DistrictKey) → IsDistrictKey s k
      → IsGreatest s.orders (is_there held (first_order s k)) (λ n. left (numbered (first_order s k) n))
      (slice_index v.greatest_order (district_place s k.warehouse k.district))
  pub least_waiting : (k : DistrictKey) → IsDistrictKey s k
      → IsLeast s.orders (is_there held (first_new_order s k)) (λ n. left (numbered (first_new_order s k) n))
      (slice_index v.least_waiting (district_place s k.warehouse k.district))
  pub greatest_waiting : (k : DistrictKey) → IsDistrictKey s k
      → IsGreatest s.orders (is_there held (first_new_order s k)) (λ n. left (numbered (first_new_order s k) n))
      (slice_index v.greatest_waiting (district_place s k.warehouse k.district))

-- once a record has been looked at, the bounds are right of it too
abbrev pub KeepsEnds : Sizes → (ℕ → Option (List ℕ)) → ℕ → BoundsView → BoundsView → Type 0
KeepsEnds s held number v v' = (left later : ℕ → Bool) → ((n : ℕ) → later n ≡ false → left n ≡ true → n ≡ number)
    → AreEnds s held left v → AreEnds s held later v'

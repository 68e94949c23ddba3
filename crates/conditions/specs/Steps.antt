-- Searches over a part of the keys. No public clause cites them.
use Rattle.std.specs.Prelude.{◌≡◌, ℕ, ◌<◌, Option, None, Some}
use Rattle.tables.specs.Sizes.{IsNumber}
use Rattle.tables.specs.declared.keys.DistrictKey.{DistrictKey}
use Rattle.tables.specs.declared.keys.CustomerKey.{CustomerKey}

-- `Finds` over the districts of one warehouse, and over the customers of one district, of which there are n
abbrev pub FindsDistrictOf : ℕ → ℕ → (DistrictKey → Type 0) → Option DistrictKey → Type 0
FindsDistrictOf w n HoldsAt None = (d : ℕ) → IsNumber n d → HoldsAt (record { warehouse = w; district = d })
FindsDistrictOf w n HoldsAt (Some k) = (k.warehouse ≡ w) × IsNumber n k.district × (HoldsAt k → ⊥)
    × ((d : ℕ) → IsNumber n d → d < k.district → HoldsAt (record { warehouse = w; district = d }))

abbrev pub FindsCustomerOf : ℕ → ℕ → ℕ → (CustomerKey → Type 0) → Option CustomerKey → Type 0
FindsCustomerOf w d n HoldsAt None = (c : ℕ) → IsNumber n c
    → HoldsAt (record { warehouse = w; district = d; customer = c })
FindsCustomerOf w d n HoldsAt (Some k) = (k.warehouse ≡ w) × (k.district ≡ d) × IsNumber n k.customer × (HoldsAt k → ⊥)
    × ((c : ℕ) → IsNumber n c → c < k.customer → HoldsAt (record { warehouse = w; district = d; customer = c }))

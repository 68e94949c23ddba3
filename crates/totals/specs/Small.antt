-- Sums that are held in so many bits.
use Rattle.std.specs.Prelude.{ℕ, ◌==◌, pos, length}
use Rattle.std.specs.Int.{w8, w64}
use Rattle.std.specs.Int.RustNames.{FitsSigned}
use Rattle.tables.specs.Sizes.{Sizes}
use Rattle.tables.specs.Keys.{IsWarehouseKey, IsDistrictKey, IsCustomerKey, IsOrderKey, is_district, is_order}
use Rattle.tables.specs.Maps.{sum_where, count}
use Rattle.tables.specs.OrderNumbers.{numbers_in}
use Rattle.tables.specs.Database.{Database}
use Rattle.tables.specs.Conditions.{line_counts, delivered_amount, paid_at_warehouse, paid_at_district}
use Rattle.tables.specs.Conditions.{paid_by_customer}
use Rattle.tables.specs.declared.keys.DistrictKey.{DistrictKey}
use Rattle.tables.specs.declared.keys.CustomerKey.{CustomerKey}
use Rattle.tables.specs.declared.keys.OrderKey.{OrderKey}

-- each sum that `AreSums` speaks of fits the word that holds it
pub record SumsFit (s : Sizes) (t : Database) : Type 0 where
  pub year_to_date : (w : ℕ) → IsWarehouseKey s w
      → FitsSigned w64 (sum_where (λ k r. k.warehouse == w) (λ r. r.year_to_date) t.districts)
  pub paid_at_warehouse : (w : ℕ) → IsWarehouseKey s w → FitsSigned w64 (paid_at_warehouse t w)
  pub paid_at_district : (k : DistrictKey) → IsDistrictKey s k → FitsSigned w64 (paid_at_district t k)
  pub paid_by_customer : (k : CustomerKey) → IsCustomerKey s k → FitsSigned w64 (paid_by_customer t k)
  pub delivered : (k : CustomerKey) → IsCustomerKey s k → FitsSigned w64 (delivered_amount t k)
  pub line_counts : (k : DistrictKey) → IsDistrictKey s k → FitsSigned w64 (line_counts t k)
  pub district_lines : (k : DistrictKey) → IsDistrictKey s k
      → FitsSigned w64 (count (λ j line. is_district j.warehouse j.district k) t.lines)
  pub order_lines : (k : OrderKey) → IsOrderKey s k
      → FitsSigned w8 (count (λ j line. is_order j.warehouse j.district j.order k) t.lines)
  pub waiting : (k : DistrictKey) → IsDistrictKey s k
      → FitsSigned w64 (pos (length (numbers_in k t.new_orders)))

-- What no transaction changes.
use Rattle.std.specs.Prelude.{◌≡◌, ℕ}
use Rattle.std.specs.Option.{option_map}
use Rattle.std.specs.FinMap.{get}
use Rattle.tables.specs.Database.{Database}
use Rattle.tables.specs.declared.keys.DistrictKey.{DistrictKey}
use Rattle.tables.specs.declared.keys.CustomerKey.{CustomerKey}

-- tables that a population's may become: the scale, whether Payments change C_DATA, and the columns that never change
-- are the population's
pub record IsOf (t0 t : Database) : Type 0 where
  pub scale : t.scale ≡ t0.scale
  pub keeps : t.keeps_texts ≡ t0.keeps_texts
  pub warehouse_taxes : (w : ℕ) → option_map (λ r. r.tax) (get t.warehouses w) ≡ option_map (λ r. r.tax)
      (get t0.warehouses w)
  pub district_taxes : (k : DistrictKey) → option_map (λ r. r.tax) (get t.districts k) ≡ option_map (λ r. r.tax)
      (get t0.districts k)
  pub first_names : (k : CustomerKey) → option_map (λ r. r.first_name) (get t.customers k) ≡ option_map
      (λ r. r.first_name) (get t0.customers k)
  pub last_names : (k : CustomerKey) → option_map (λ r. r.last_name) (get t.customers k) ≡ option_map (λ r. r.last_name)
      (get t0.customers k)
  pub credit : (k : CustomerKey) → option_map (λ r. r.credit) (get t.customers k) ≡ option_map (λ r. r.credit)
      (get t0.customers k)
  pub discounts : (k : CustomerKey) → option_map (λ r. r.discount) (get t.customers k) ≡ option_map (λ r. r.discount)
      (get t0.customers k)
  pub items : t.items ≡ t0.items

-- The lists of rates and of credit: what they say of each key, and of a key that the scale hasn't.
use Rattle.std.proofs.Common.{◌≡◌, ℕ, ◌-◌, ◌≤◌, Bool, false, Option, Some, None, IsSome, get_or, length, refl, ap, ◌∙◌, arith}
use Rattle.std.proofs.lemmas.List.FromFn.{get_or-map-range_with_len, length-map-range_with_len}
use Rattle.std.specs.FinMap.{get}
use Rattle.std.specs.Option.{option_map_or}
use Rattle.tables.specs.Database.{Database}
use Rattle.tables.specs.Keys.{IsWarehouseKey, IsDistrictKey, IsCustomerKey}
use Rattle.tables.specs.NewOrder.{discount, district_tax, warehouse_tax}
use Rattle.tables.specs.Records.{size, customer_at, district_at, customer_place, district_place}
use Rattle.tables.specs.WellFormed.{IsWellFormed}
use Rattle.tables.specs.declared.records.Table.TheVariants as table
use Rattle.tables.specs.declared.keys.CustomerKey.{CustomerKey}
use Rattle.tables.specs.declared.keys.DistrictKey.{DistrictKey}
use Rattle.tables.specs.declared.rows.Customer.{Customer}
use Rattle.tables.specs.declared.rows.District.{District}
use Rattle.tables.specs.declared.rows.Warehouse.{Warehouse}
use Rattle.tables.proofs.Numbers.{customer_there, district_there}
use Rattle.tables.specs.Payment.{is_bad, has_bad_credit}
use Rattle.population.specs.Credits.{bad_credits_of}
use Rattle.population.specs.Rates.{discounts_of, district_taxes_of, warehouse_taxes_of}

-- the column of a row that isn't there
none_there : {X V : Type 0} (f : X → V) (missing : V) (w : Option X) → ¬ IsSome w → option_map_or f w missing ≡ missing
none_there f missing None h = refl
none_there f missing (Some r) h = absurd (h refl)

module _ (t : Database) where
  pub discount_at : (k : CustomerKey) (z : ℕ) → IsCustomerKey t.scale k → get_or (discounts_of t) (customer_place t.scale k) z ≡ discount t k
  discount_at k z h =
      let there = customer_there t.scale k h in
      let p = customer_place t.scale k in
      get_or-map-range_with_len (λ q. discount t (customer_at t.scale q)) 0 (size t.scale table.Customer) p p z there.0 (omega arith)
      ∙ ap (discount t) there.1

  pub district_tax_at : (k : DistrictKey) (z : ℕ) → IsDistrictKey t.scale k
      → get_or (district_taxes_of t) (district_place t.scale k.warehouse k.district) z ≡ district_tax t k
  district_tax_at k z h =
      let there = district_there t.scale k h in
      let p = district_place t.scale k.warehouse k.district in
      get_or-map-range_with_len (λ q. district_tax t (district_at t.scale q)) 0 (size t.scale table.District) p p z there.0 (omega arith)
      ∙ ap (district_tax t) there.1

  pub warehouse_tax_at : (w z : ℕ) → 1 ≤ w → w ≤ t.scale.warehouses → get_or (warehouse_taxes_of t) (w - 1) z ≡ warehouse_tax t w
  warehouse_tax_at w z low high =
      get_or-map-range_with_len (warehouse_tax t) 1 t.scale.warehouses (w - 1) w z (omega (arith, low, high)) (omega (arith, low))

  pub credit_at : (k : CustomerKey) (z : Bool) → IsCustomerKey t.scale k → get_or (bad_credits_of t) (customer_place t.scale k) z ≡ has_bad_credit t k
  credit_at k z h =
      let there = customer_there t.scale k h in
      let p = customer_place t.scale k in
      get_or-map-range_with_len (λ q. has_bad_credit t (customer_at t.scale q)) 0 (size t.scale table.Customer) p p z there.0 (omega arith)
      ∙ ap (has_bad_credit t) there.1

  pub all_discounts : length (discounts_of t) ≡ size t.scale table.Customer
  all_discounts = length-map-range_with_len (λ p. discount t (customer_at t.scale p)) 0 (size t.scale table.Customer)

  pub all_credits : length (bad_credits_of t) ≡ size t.scale table.Customer
  all_credits = length-map-range_with_len (λ p. has_bad_credit t (customer_at t.scale p)) 0 (size t.scale table.Customer)

  pub all_district_taxes : length (district_taxes_of t) ≡ size t.scale table.District
  all_district_taxes = length-map-range_with_len (λ p. district_tax t (district_at t.scale p)) 0 (size t.scale table.District)

  pub all_warehouse_taxes : length (warehouse_taxes_of t) ≡ t.scale.warehouses
  all_warehouse_taxes = length-map-range_with_len (warehouse_tax t) 1 t.scale.warehouses

  module _ (valid : IsWellFormed t) where
    pub no_discount : (k : CustomerKey) → ¬ IsCustomerKey t.scale k → discount t k ≡ 0
    no_discount k h = none_there (λ (r : Customer). r.discount) 0 (get t.customers k) (λ there. h ((valid.customers k).0 there))

    pub no_bad_credit : (k : CustomerKey) → ¬ IsCustomerKey t.scale k → has_bad_credit t k ≡ false
    no_bad_credit k h = none_there (λ (r : Customer). is_bad r.credit) false (get t.customers k) (λ there. h ((valid.customers k).0 there))

    pub no_district_tax : (k : DistrictKey) → ¬ IsDistrictKey t.scale k → district_tax t k ≡ 0
    no_district_tax k h = none_there (λ (r : District). r.tax) 0 (get t.districts k) (λ there. h ((valid.districts k).0 there))

    pub no_warehouse_tax : (w : ℕ) → ¬ IsWarehouseKey t.scale w → warehouse_tax t w ≡ 0
    no_warehouse_tax w h = none_there (λ (r : Warehouse). r.tax) 0 (get t.warehouses w) (λ there. h ((valid.warehouses w).0 there))

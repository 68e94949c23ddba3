-- A Delivery leaves the columns that never change.
use Rattle.std.proofs.Common.{◌≡◌, ℕ, true, false, cond, Option, Some, None, refl, ap, ◌∙◌}
use Rattle.std.specs.Option.{option_map}
use Rattle.std.specs.FinMap.{get}
use Rattle.tables.specs.Database.{Database}
use Rattle.tables.specs.Delivery.{after_delivery, after_taken, taken, is_order_of, credited}
use Rattle.tables.specs.Constant.{IsOf}
use Rattle.tables.specs.declared.keys.OrderKey.{OrderKey}
use Rattle.tables.specs.declared.keys.CustomerKey.{CustomerKey}
use Rattle.tables.specs.declared.rows.Customer.{Customer}
use Rattle.tables.specs.declared.delivery.DeliveryInput.{DeliveryInput}
use Rattle.tables.proofs.Orders.{exact_customer}
use Rattle.tables_laws.proofs.Updates.{get-map_rows}

-- what a credit leaves of a customer's row, a Delivery leaves
taken_leaves : {Y : Type 0} (t : Database) (f : Customer → Y) → ((k : OrderKey) (r : Customer) → f (credited t k r) ≡ f r)
    → (c : CustomerKey) (w : Option ℕ) (r : Customer) → f (after_taken t c w r) ≡ f r
taken_leaves t f same c None r = refl
taken_leaves t f same c (Some o) r =
    let k : OrderKey = record { warehouse = c.warehouse; district = c.district; order = o } in
    elim (is_order_of t k c.customer) as (λ b. f (cond b (credited t k r) r) ≡ f r) [ true ↦ same k r | false ↦ refl ]

module _ (t : Database) (x : DeliveryInput) where
  column_left : {Y : Type 0} (f : Customer → Y) → ((k : OrderKey) (r : Customer) → f (credited t k r) ≡ f r) → (c : CustomerKey)
      → option_map f (get (after_delivery t x).customers c) ≡ option_map f (get t.customers c)
  column_left {Y = Y} f same c =
      ap (option_map f) (get-map_rows exact_customer (λ c r. after_taken t c (taken t x (record { warehouse = c.warehouse; district = c.district })) r)
      t.customers c)
      ∙ left (get t.customers c) (taken t x (record { warehouse = c.warehouse; district = c.district }))
    where
      left : (w : Option Customer) (o : Option ℕ) → option_map f (option_map (after_taken t c o) w) ≡ option_map f w
      left None o = refl
      left (Some r) o = ap Some (taken_leaves t f same c o r)

  -- once it has done some districts
  pub kept_constants : (t0 : Database) → IsOf t0 t → IsOf t0 (after_delivery t x)
  kept_constants t0 h = record {
    scale = h.scale;
    keeps = h.keeps;
    warehouse_taxes = h.warehouse_taxes;
    district_taxes = h.district_taxes;
    first_names = λ k. column_left (λ r. r.first_name) (λ _ _. refl) k ∙ h.first_names k;
    last_names = λ k. column_left (λ r. r.last_name) (λ _ _. refl) k ∙ h.last_names k;
    credit = λ k. column_left (λ r. r.credit) (λ _ _. refl) k ∙ h.credit k;
    discounts = λ k. column_left (λ r. r.discount) (λ _ _. refl) k ∙ h.discounts k;
    items = h.items;
  }

pub delivery_keeps_constants : (t0 t : Database) (x : DeliveryInput) → IsOf t0 t → IsOf t0 (after_delivery t x)
delivery_keeps_constants t0 t x h = kept_constants t x t0 h

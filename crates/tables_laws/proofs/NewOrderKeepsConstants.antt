-- A New-Order leaves the columns that never change.
use Rattle.std.proofs.Common.{refl, ◌∙◌}
use Rattle.std.specs.Option.{option_map}
use Rattle.tables.specs.Keys.{is_district}
use Rattle.tables.specs.Database.{Database}
use Rattle.tables.specs.NewOrder.{numbered_district, after_new_order}
use Rattle.tables.specs.Constant.{IsOf}
use Rattle.tables.specs.declared.new_order.NewOrderInput.{NewOrderInput}
use Rattle.tables.proofs.Orders.{exact_district}
use Rattle.tables_laws.proofs.Updates.{kept-update_where}

pub new_order_keeps_constants : (t0 t : Database) (x : NewOrderInput) → IsOf t0 t → IsOf t0 (after_new_order t x)
new_order_keeps_constants t0 t x h = record {
  scale = h.scale;
  keeps = h.keeps;
  warehouse_taxes = h.warehouse_taxes;
  district_taxes = λ k. kept-update_where exact_district (is_district x.warehouse x.district) numbered_district (option_map (λ r. r.tax)) t.districts k
      (λ _ r. refl) ∙ h.district_taxes k;
  first_names = h.first_names;
  last_names = h.last_names;
  credit = h.credit;
  discounts = h.discounts;
  items = h.items;
}

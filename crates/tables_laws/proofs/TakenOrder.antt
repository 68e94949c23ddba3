-- The order that a Delivery takes in a district waits to be delivered: it has a NEW-ORDER row, and none of its lines is delivered.
use Rattle.std.proofs.Common.{◌≡◌, ℕ, Bool, true, false, cond, ◌==◌, true≢false, is_none, Option, Some, None, IsSome, refl, sym, ap, ◌∙◌, subst}
use Rattle.std.proofs.lemmas.Bool.{eqb-true}
use Rattle.std.specs.Option.{option_map_or}
use Rattle.std.specs.FinMap.{get}
use Rattle.tables.specs.Keys.{order_of}
use Rattle.tables.specs.Database.{Database}
use Rattle.tables.specs.Delivery.{waiting, is_taken}
use Rattle.tables.specs.Conditions.{IsConsistent}
use Rattle.tables.specs.WellFormed.{IsWellFormed}
use Rattle.tables.specs.declared.keys.DistrictKey.{DistrictKey}
use Rattle.tables.specs.declared.keys.OrderKey.{OrderKey}
use Rattle.tables.specs.declared.keys.LineKey.{LineKey}
use Rattle.tables.specs.declared.rows.Order.{Order}
use Rattle.tables.specs.declared.rows.OrderLine.{OrderLine}
use Rattle.tables.specs.declared.delivery.DeliveryInput.{DeliveryInput}
use Rattle.tables_laws.proofs.RisingNumbers.{least_row}

abbrev numbered : OrderKey → ℕ → OrderKey
numbered j o = record { warehouse = j.warehouse; district = j.district; order = o }

module _ (t : Database) (x : DeliveryInput) where
  taken_waits : (j : OrderKey) → is_taken t x j ≡ true → IsSome (get t.new_orders j)
  taken_waits j =
      let home : DistrictKey = record { warehouse = j.warehouse; district = j.district } in
      waits (j.warehouse == x.warehouse) (waiting t home) (least_row home t.new_orders)
    where
      waits : (b : Bool) (w : Option ℕ) → ((o : ℕ) → w ≡ Some o → IsSome (get t.new_orders (numbered j o)))
          → option_map_or (λ o. o == j.order) (cond b w None) false ≡ true → IsSome (get t.new_orders j)
      waits false w there is = absurd (true≢false (sym is))
      waits true None there is = absurd (true≢false (sym is))
      waits true (Some o) there is = subst (λ a. IsSome (get t.new_orders (numbered j a))) (eqb-true o j.order is) (there o refl)

  -- by conditions 5 and 7
  pub not_delivered : IsWellFormed t → IsConsistent t → (j : LineKey) (line : OrderLine) → get t.lines j ≡ Some line → is_taken t x (order_of j) ≡ true
      → is_none line.delivery_date ≡ true
  not_delivered wf con j line found is =
      let order = wf.line_orders j line found in
      con.condition_7 j line found
      ∙ ap (λ (w : Option Order). option_map_or (λ order. is_none order.carrier) w true) order.1
      ∙ con.condition_5 (order_of j) order.0 order.1
      ∙ taken_waits (order_of j) is

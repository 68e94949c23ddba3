-- A Delivery changes no customer's last order.
use Rattle.std.proofs.Common.{◌≡◌, ℕ, Bool, true, false, cond, ◌==◌, ◌&&◌, List, [], ◌∷◌, map, filter, refl, ap, ◌∙◌}
use Rattle.std.specs.FinMap.{FinMap, entries}
use Rattle.tables.specs.Keys.{order_cmp}
use Rattle.tables.specs.Maps.{map_rows, map_entries}
use Rattle.tables.specs.OrderNumbers.{greatest, order_numbers}
use Rattle.tables.specs.Database.{Database}
use Rattle.tables.specs.Rows.{last}
use Rattle.tables.specs.Delivery.{carried}
use Rattle.delivery.specs.Steps.{is_taken_by, after_districts}
use Rattle.tables.specs.declared.keys.CustomerKey.{CustomerKey}
use Rattle.tables.specs.declared.keys.OrderKey.{OrderKey}
use Rattle.tables.specs.declared.rows.Order.{Order}
use Rattle.tables.specs.declared.delivery.DeliveryInput.{DeliveryInput}
use Rattle.tables_laws.proofs.Updates.{entries-map_rows}

-- the numbers of the orders that pass a test, where an update changes neither whether they pass nor, as ever, their keys
module _ {X : Type 0} (p : OrderKey × X → Bool) (g : OrderKey → X → X) (same : (k : OrderKey) (r : X) → p (k, g k r) ≡ p (k, r)) where
  abbrev numbers : List (OrderKey × X) → List ℕ
  numbers es = map (λ (e : OrderKey × X). e.0.order) (filter p es)

  entries_same : (es : List (OrderKey × X)) → numbers (map_entries g es) ≡ numbers es
  entries_same [] = refl
  entries_same (e ∷ es) =
      ap (λ b. map (λ (e : OrderKey × X). e.0.order) (cond b ((e.0, g e.0 e.1) ∷ filter p (map_entries g es)) (filter p (map_entries g es)))) (same e.0 e.1)
      ∙ elim (p e) as (λ b. map (λ (e : OrderKey × X). e.0.order) (cond b ((e.0, g e.0 e.1) ∷ filter p (map_entries g es)) (filter p (map_entries g es)))
      ≡ map (λ (e : OrderKey × X). e.0.order) (cond b (e ∷ filter p es) (filter p es))) [
        | true ↦ ap (λ l. e.0.order ∷ l) (entries_same es)
        | false ↦ entries_same es
      ]

  pub order_numbers-map_rows : (m : FinMap order_cmp X) → order_numbers p (map_rows g m) ≡ order_numbers p m
  order_numbers-map_rows m = ap numbers (entries-map_rows g m) ∙ entries_same (entries m)

pub last_kept : (t : Database) (x : DeliveryInput) (n : ℕ) (k : CustomerKey) → last (after_districts t x n) k ≡ last t k
last_kept t x n k =
    ap greatest (order_numbers-map_rows (λ (e : OrderKey × Order). (e.0.warehouse == k.warehouse) && (e.0.district == k.district)
    && (e.1.customer == k.customer))
    (λ j r. cond (is_taken_by t x n j) (carried x r) r)
    (λ j r. elim (is_taken_by t x n j) as
    (λ b. ((j.warehouse == k.warehouse) && (j.district == k.district) && ((cond b (carried x r) r).customer == k.customer)) ≡ ((j.warehouse == k.warehouse)
    && (j.district == k.district) && (r.customer == k.customer))) [ true ↦ refl | false ↦ refl ])
    t.orders)

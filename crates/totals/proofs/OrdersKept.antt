-- No transaction takes an order away, gives it to another customer, or makes one that is delivered.
use Rattle.std.proofs.Common.{◌≡◌, Bool, true, false, true≢false, cond, Option, Some, None, is_some, refl, sym, ap, ◌∙◌}
use Rattle.std.proofs.lemmas.Option.{same_Some}
use Rattle.std.specs.Ordering.{eq_by_cmp}
use Rattle.std.specs.Option.{option_map}
use Rattle.std.specs.FinMap.{get, get-insert}
use Rattle.tables.specs.Inputs.{IsInput}
use Rattle.tables.specs.Apply.{after, order_unless, left_by}
use Rattle.tables.specs.NewOrder.{first_missing, home, new_key, order_row}
use Rattle.tables.specs.Delivery.{is_taken, carried}
use Rattle.tables.specs.Keys.{order_cmp}
use Rattle.tables.specs.Database.{Database}
use Rattle.tables.specs.WellFormed.{IsWellFormed}
use Rattle.tables.specs.Conditions.{IsConsistent}
use Rattle.tables.specs.declared.keys.OrderKey.{OrderKey}
use Rattle.tables.specs.declared.rows.Order.{Order}
use Rattle.tables.specs.declared.input.Input.{Input}
use Rattle.tables.specs.declared.input.Input.TheVariants.{Payment, NewOrder, Delivery, OrderStatus, StockLevel}
use Rattle.tables.proofs.Orders.{exact_order}
use Rattle.tables_laws.proofs.NewKey.{other_order}
use Rattle.tables_laws.proofs.Rows.{get-insert_other}
use Rattle.tables_laws.proofs.Updates.{get-map_rows}
use Rattle.totals.specs.Written.{OrdersKeepCustomers, NewOrdersWait}

pub orders_keep_customers : (t : Database) (x : Input) → IsInput t.scale x → IsWellFormed t → IsConsistent t → OrdersKeepCustomers t (after t x)
orders_keep_customers t (Payment x) ok wf con = λ k order found. (order, found, refl)
orders_keep_customers t (NewOrder x) ok wf con = elim (first_missing t x.lines) as (λ missing. OrdersKeepCustomers t (left_by t (order_unless missing t x))) [
  | None ↦ λ k order found. (
    order,
    get-insert_other exact_order t.orders (new_key t x) (order_row x) k
        (other_order t x wf (con.condition_2 (home x) (ok.warehouse, ok.district)) k order found)
        ∙ found,
    refl,
  )
  | Some item ↦ λ k order found. (order, found, refl)
]
orders_keep_customers t (Delivery x) ok wf con = λ k order found. (
  cond (is_taken t x k) (carried x order) order,
  get-map_rows exact_order (λ j r. cond (is_taken t x j) (carried x r) r) t.orders k
      ∙ ap (option_map (λ r. cond (is_taken t x k) (carried x r) r)) found,
  elim (is_taken t x k) as (λ b. (cond b (carried x order) order).customer ≡ order.customer) [ true ↦ refl | false ↦ refl ],
)
orders_keep_customers t (OrderStatus x) ok wf con = λ k order found. (order, found, refl)
orders_keep_customers t (StockLevel x) ok wf con = λ k order found. (order, found, refl)

missing : {X : Type 0} (w : Option X) (r : X) → w ≡ None → w ≡ Some r → ⊥
missing w r none some = true≢false (ap is_some (sym some ∙ none))

pub new_orders_wait : (t : Database) (x : Input) → NewOrdersWait t (after t x)
new_orders_wait t (Payment x) = λ k order none found. absurd (missing _ order none found)
new_orders_wait t (NewOrder x) = elim (first_missing t x.lines) as (λ missing. NewOrdersWait t (left_by t (order_unless missing t x))) [
  | None ↦ λ k order none found. inserted k order none
      (eq_by_cmp order_cmp k (new_key t x)) (sym (get-insert exact_order.total t.orders (new_key t x) (order_row x) k) ∙ found)
  | Some item ↦ λ k order none found. absurd (missing _ order none found)
]
  where
    inserted : (k : OrderKey) (order : Order) → get t.orders k ≡ None → (b : Bool) → cond b (Some (order_row x)) (get t.orders k) ≡ Some order
        → order.carrier ≡ None
    inserted k order none true found = ap (λ (o : Order). o.carrier) (sym (same_Some (order_row x) order found))
    inserted k order none false found = absurd (missing _ order none found)
new_orders_wait t (Delivery x) = λ k order none found.
    absurd (missing _ order (get-map_rows exact_order (λ j r. cond (is_taken t x j) (carried x r) r) t.orders k
    ∙ ap (option_map (λ r. cond (is_taken t x k) (carried x r) r)) none) found)
new_orders_wait t (OrderStatus x) = λ k order none found. absurd (missing _ order none found)
new_orders_wait t (StockLevel x) = λ k order none found. absurd (missing _ order none found)

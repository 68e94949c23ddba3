-- A Delivery keeps the consistency conditions, also while it has done a part of the districts.
use Rattle.std.proofs.Common.{◌≡◌, ℕ, ◌+◌, ℤ, pos, ◌+ℤ◌, ◌-ℤ◌, Bool, true, false, not, cond, ◌==◌, Option, Some, None, is_some, is_none, refl, sym, ap, ◌∙◌}
use Rattle.std.proofs.Common.{subst, arith}
use Rattle.std.proofs.lemmas.Int.{ints}
use Rattle.std.specs.Option.{option_map, option_map_or}
use Rattle.std.specs.FinMap.{get}
use Rattle.tables.specs.Keys.{is_district, is_order, order_of, IsDistrictKey, IsCustomerKey}
use Rattle.tables.specs.Maps.{column, count}
use Rattle.tables.specs.OrderNumbers.{greatest, numbers_in, next_order}
use Rattle.tables.specs.Database.{Database}
use Rattle.tables.specs.Delivery.{IsDelivery, taken, is_taken, carried, dated, is_order_of, order_amount, credited, after_taken, after_delivery}
use Rattle.tables.specs.Conditions.{IsConsistent, Condition2At, Condition3At, Condition4At, Condition5At, Condition6At, Condition7At, Condition10At}
use Rattle.tables.specs.Conditions.{Condition12At, delivered_amount, paid_by_customer}
use Rattle.tables.specs.WellFormed.{IsWellFormed}
use Rattle.tables.specs.declared.keys.DistrictKey.{DistrictKey}
use Rattle.tables.specs.declared.keys.CustomerKey.{CustomerKey}
use Rattle.tables.specs.declared.keys.OrderKey.{OrderKey}
use Rattle.tables.specs.declared.keys.LineKey.{LineKey}
use Rattle.tables.specs.declared.rows.Customer.{Customer}
use Rattle.tables.specs.declared.rows.Order.{Order}
use Rattle.tables.specs.declared.rows.OrderLine.{OrderLine}
use Rattle.tables.specs.declared.delivery.DeliveryInput.{DeliveryInput}
use Rattle.tables.proofs.Orders.{exact_customer, exact_order, exact_line}
use Rattle.tables_laws.proofs.Updates.{get-map_rows, total-kept, row_before}
use Rattle.tables_laws.proofs.Rows.{there, each_updated}
use Rattle.tables_laws.proofs.Touched.{district_named}
use Rattle.tables_laws.proofs.Retained.{get-retained}
use Rattle.tables_laws.proofs.RisingNumbers.{numbers_rise}
use Rattle.tables_laws.proofs.NumbersLeft.{IsGapless, gapless_left}
use Rattle.tables_laws.proofs.DistrictNumbers.{numbers-updated, numbers-retained}
use Rattle.tables_laws.proofs.DeliveredAmounts.{order_at, raise, delivered_after}

no_raise : (a : ℤ) → a ≡ a +ℤ pos 0
no_raise a = omega (arith, ints)

module _ (t : Database) (x : DeliveryInput) (wf : IsWellFormed t) (con : IsConsistent t) where
  -- ---- the order numbers of a district
  waiting_after : (k : DistrictKey) → IsDistrictKey t.scale k → IsGapless (next_order t k) (numbers_in k (after_delivery t x).new_orders)
  waiting_after k is =
      subst (IsGapless (next_order t k))
      (sym (numbers-retained k (λ j. not (is_taken t x j)) (taken t x k)
      (λ j within. ap (λ (d : DistrictKey). not (option_map_or (λ o. o == j.order) (taken t x d) false)) (district_named j.warehouse j.district k within))
      t.new_orders))
      (gapless_left (k.warehouse == x.warehouse) (next_order t k) (numbers_in k t.new_orders) (numbers_rise k t.new_orders)
      ((con.condition_2 k is).1, con.condition_3 k is))

  condition_2 : (k : DistrictKey) → IsDistrictKey t.scale k → Condition2At (after_delivery t x) k
  condition_2 k is = (
    ap (λ ns. greatest ns + 1) (numbers-updated k (λ j r. cond (is_taken t x j) (carried x r) r) t.orders) ∙ (con.condition_2 k is).0,
    (waiting_after k is).0,
  )

  condition_3 : (k : DistrictKey) → IsDistrictKey t.scale k → Condition3At (after_delivery t x) k
  condition_3 k is = (waiting_after k is).1

  -- ---- the numbers of lines
  condition_4 : (k : DistrictKey) → IsDistrictKey t.scale k → Condition4At (after_delivery t x) k
  condition_4 k is =
      total-kept exact_order (λ j order. cond (is_district j.warehouse j.district k) (pos order.line_count) (pos 0))
      (λ j r. cond (is_taken t x j) (carried x r) r) t.orders
      (λ j r. elim (is_taken t x j) as
      (λ b. cond (is_district j.warehouse j.district k) (pos (cond b (carried x r) r).line_count) (pos 0) ≡ cond (is_district j.warehouse j.district k)
      (pos r.line_count) (pos 0)) [ true ↦ refl | false ↦ refl ])
      ∙ con.condition_4 k is
      ∙ sym (total-kept exact_line (λ j line. cond (is_district j.warehouse j.district k) (pos 1) (pos 0))
      (λ j r. cond (is_taken t x (order_of j)) (dated x r) r) t.lines (λ _ _. refl))

  lines_stay : (k : OrderKey) → count (λ j line. is_order j.warehouse j.district j.order k) t.lines ≡ count
      (λ j line. is_order j.warehouse j.district j.order k) (after_delivery t x).lines
  lines_stay k = sym (total-kept exact_line (λ j line. cond (is_order j.warehouse j.district j.order k) (pos 1) (pos 0))
      (λ j r. cond (is_taken t x (order_of j)) (dated x r) r) t.lines (λ _ _. refl))

  condition_6 : (k : OrderKey) → Condition6At (after_delivery t x) k
  condition_6 = each_updated exact_order
      (λ k order. pos order.line_count ≡ count (λ j line. is_order j.warehouse j.district j.order k) t.lines)
      (λ k order. pos order.line_count ≡ count (λ j line. is_order j.warehouse j.district j.order k) (after_delivery t x).lines)
      (λ k r. cond (is_taken t x k) (carried x r) r) t.orders con.condition_6
      (λ k r was. elim (is_taken t x k) as
      (λ b. pos (cond b (carried x r) r).line_count ≡ count (λ j line. is_order j.warehouse j.district j.order k) (after_delivery t x).lines) [
        | true ↦ was ∙ lines_stay k
        | false ↦ was ∙ lines_stay k
      ])

  -- ---- carriers and delivery dates
  condition_5 : (k : OrderKey) → Condition5At (after_delivery t x) k
  condition_5 = each_updated exact_order
      (λ k order. is_none order.carrier ≡ is_some (get t.new_orders k))
      (λ k order. is_none order.carrier ≡ is_some (get (after_delivery t x).new_orders k))
      (λ k r. cond (is_taken t x k) (carried x r) r) t.orders con.condition_5
      (λ k r was.
      elim (is_taken t x k) as (λ b. is_none (cond b (carried x r) r).carrier ≡ is_some (cond (not b) (get t.new_orders k) None)) [
        | true ↦ refl
        | false ↦ was
      ]
      ∙ ap is_some (sym (get-retained exact_order t.new_orders (λ j. not (is_taken t x j)) k)))

  condition_7 : (k : LineKey) → Condition7At (after_delivery t x) k
  condition_7 k line found =
      let before = row_before exact_line (λ j r. cond (is_taken t x (order_of j)) (dated x r) r) t.lines k line found in
      let r = before.0 in
      let order = wf.line_orders k r before.1 in
      let carrier_null : Option Order → Bool = λ w. option_map_or (λ o. is_none o.carrier) w true in
      ap (λ (q : OrderLine). is_none q.delivery_date) before.2
      ∙ elim (is_taken t x (order_of k)) as
      (λ b. is_none (cond b (dated x r) r).delivery_date ≡ carrier_null (option_map (λ o. cond b (carried x o) o) (Some order.0))) [
        | true ↦ refl
        | false ↦ con.condition_7 k r before.1 ∙ ap carrier_null order.1
      ]
      ∙ ap (λ (w : Option Order). carrier_null (option_map (λ o. cond (is_taken t x (order_of k)) (carried x o) o) w)) (sym order.1)
      ∙ ap carrier_null (sym (get-map_rows exact_order (λ j r. cond (is_taken t x j) (carried x r) r) t.orders (order_of k)))

  -- ---- balances
  abbrev taken_near : CustomerKey → Option ℕ
  taken_near k = taken t x (record { warehouse = k.warehouse; district = k.district })

  balance_after : (k : CustomerKey) (w : Option ℕ) (r : Customer) → (after_taken t k w r).balance ≡ r.balance +ℤ raise t k w
  balance_after k None r = no_raise r.balance
  balance_after k (Some o) r =
      elim (is_order_of t (order_at k o) k.customer) as
      (λ b. (cond b (credited t (order_at k o) r) r).balance ≡ r.balance +ℤ cond b (order_amount t (order_at k o)) (pos 0)) [
        | true ↦ refl
        | false ↦ no_raise r.balance
      ]

  paid_stays : (k : CustomerKey) (w : Option ℕ) (r : Customer) → (after_taken t k w r).paid ≡ r.paid
  paid_stays k None r = refl
  paid_stays k (Some o) r = elim (is_order_of t (order_at k o) k.customer) as (λ b. (cond b (credited t (order_at k o) r) r).paid ≡ r.paid)
      [ true ↦ refl | false ↦ refl ]

  customer_after : (f : Customer → ℤ) (k : CustomerKey) (r : Customer) → get t.customers k ≡ Some r
      → column f (after_delivery t x).customers k ≡ f (after_taken t k (taken_near k) r)
  customer_after f k r found =
      ap (λ (w : Option Customer). option_map_or f w (pos 0))
      (get-map_rows exact_customer (λ c r. after_taken t c (taken_near c) r) t.customers k ∙ ap (option_map (after_taken t k (taken_near k))) found)

  condition_10 : (k : CustomerKey) → IsCustomerKey t.scale k → Condition10At (after_delivery t x) k
  condition_10 k is =
      let customer = there (IsCustomerKey t.scale) t.customers wf.customers k is in
      let r = customer.0 in
      let was : r.balance ≡ delivered_amount t k -ℤ paid_by_customer t k = ap (λ (w : Option Customer). option_map_or (λ q. q.balance) w (pos 0))
      (sym customer.1) ∙ con.condition_10 k is in
      customer_after (λ q. q.balance) k r customer.1
      ∙ balance_after k (taken_near k) r
      ∙ raised r.balance (delivered_amount t k) (paid_by_customer t k) (raise t k (taken_near k)) was
      ∙ ap (λ a. a -ℤ paid_by_customer t k) (sym (delivered_after t x k wf con))
    where
      raised : (b d p a : ℤ) → b ≡ d -ℤ p → b +ℤ a ≡ (d +ℤ a) -ℤ p
      raised b d p a was = omega (arith, ints)

  condition_12 : (k : CustomerKey) → IsCustomerKey t.scale k → Condition12At (after_delivery t x) k
  condition_12 k is =
      let customer = there (IsCustomerKey t.scale) t.customers wf.customers k is in
      let r = customer.0 in
      let was : r.balance +ℤ r.paid ≡ delivered_amount t k =
      ap (λ (w : Option Customer). option_map_or (λ q. q.balance) w (pos 0) +ℤ option_map_or (λ q. q.paid) w (pos 0)) (sym customer.1)
      ∙ con.condition_12 k is in
      (λ i. customer_after (λ q. q.balance) k r customer.1 i +ℤ customer_after (λ q. q.paid) k r customer.1 i)
      ∙ (λ i. balance_after k (taken_near k) r i +ℤ paid_stays k (taken_near k) r i)
      ∙ raised r.balance r.paid (delivered_amount t k) (raise t k (taken_near k)) was
      ∙ sym (delivered_after t x k wf con)
    where
      raised : (b p d a : ℤ) → b +ℤ p ≡ d → (b +ℤ a) +ℤ p ≡ d +ℤ a
      raised b p d a was = omega (arith, ints)

  pub kept_consistent : IsConsistent (after_delivery t x)
  kept_consistent = record {
    condition_1 = con.condition_1;
    condition_2 = condition_2;
    condition_3 = condition_3;
    condition_4 = condition_4;
    condition_5 = condition_5;
    condition_6 = condition_6;
    condition_7 = condition_7;
    condition_8 = con.condition_8;
    condition_9 = con.condition_9;
    condition_10 = condition_10;
    condition_12 = condition_12;
  }

pub delivery_keeps_consistent : (t : Database) (x : DeliveryInput) → IsDelivery t.scale x → IsWellFormed t → IsConsistent t → IsConsistent (after_delivery t x)
delivery_keeps_consistent t x _ wf con = kept_consistent t x wf con

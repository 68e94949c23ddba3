-- What a Delivery adds to the sum of a customer's delivered lines: the sum of the order taken in the customer's district, where that order is the customer's.
use Rattle.std.proofs.Common.{◌≡◌, ℕ, ℤ, pos, ◌+ℤ◌, Bool, true, false, cond, ◌==◌, ◌&&◌, true≢false, is_some, is_none, Option, Some, None, refl, sym, ap, ◌∙◌}
use Rattle.std.proofs.Common.{arith}
use Rattle.std.proofs.lemmas.Int.{ints}
use Rattle.std.proofs.lemmas.Bool.{eqb-true}
use Rattle.std.proofs.lemmas.Bool.Decides.{nat_tests}
use Rattle.std.specs.Option.{option_map_or}
use Rattle.tables.specs.Keys.{is_order, order_of}
use Rattle.tables.specs.Maps.{total}
use Rattle.tables.specs.Database.{Database}
use Rattle.tables.specs.Delivery.{taken, is_taken, carried, dated, is_order_of, order_amount, after_delivery}
use Rattle.tables.specs.Conditions.{IsConsistent, is_line_of, delivered_amount}
use Rattle.tables.specs.WellFormed.{IsWellFormed}
use Rattle.tables.specs.declared.keys.DistrictKey.{DistrictKey}
use Rattle.tables.specs.declared.keys.CustomerKey.{CustomerKey}
use Rattle.tables.specs.declared.keys.OrderKey.{OrderKey}
use Rattle.tables.specs.declared.keys.LineKey.{LineKey}
use Rattle.tables.specs.declared.rows.Order.{Order}
use Rattle.tables.specs.declared.rows.OrderLine.{OrderLine}
use Rattle.tables.specs.declared.delivery.DeliveryInput.{DeliveryInput}
use Rattle.tables.proofs.Orders.{exact_order, exact_line}
use Rattle.tables.proofs.Totals.{total-alike, total-zero}
use Rattle.tables_laws.proofs.Updates.{kept-update_where}
use Rattle.tables_laws.proofs.Sums.{total-mapped, total-added}
use Rattle.tables_laws.proofs.TakenOrder.{not_delivered}
use Rattle.tables_laws.proofs.Touched.{district_named}

-- the order of a customer's district with this number
abbrev pub order_at : CustomerKey → ℕ → OrderKey
order_at k o = record { warehouse = k.warehouse; district = k.district; order = o }

-- what a customer's balance is raised by where this order of the district was taken, or none was
abbrev pub raise : Database → CustomerKey → Option ℕ → ℤ
raise t k w = option_map_or (λ o. cond (is_order_of t (order_at k o) k.customer) (order_amount t (order_at k o)) (pos 0)) w (pos 0)

-- what a line adds to it
abbrev part : Database → CustomerKey → Option ℕ → LineKey → OrderLine → ℤ
part t k w j line = option_map_or
    (λ o. cond (is_order_of t (order_at k o) k.customer) (cond (is_order j.warehouse j.district j.order (order_at k o)) line.amount (pos 0)) (pos 0)) w (pos 0)

parts : (t : Database) (k : CustomerKey) (w : Option ℕ) → total (part t k w) t.lines ≡ raise t k w
parts t k None = total-zero exact_line (part t k None) t.lines (λ _ _ _. refl)
parts t k (Some o) =
    elim (is_order_of t (order_at k o) k.customer) as
    (λ b. total (λ (j : LineKey) (line : OrderLine). cond b (cond (is_order j.warehouse j.district j.order (order_at k o)) line.amount (pos 0)) (pos 0))
    t.lines ≡ cond b (order_amount t (order_at k o)) (pos 0)) [
      | true ↦ refl
      | false ↦ total-zero exact_line (λ _ _. pos 0) t.lines (λ _ _ _. refl)
    ]

-- a line that wasn't delivered counts once more where it is now
one_more : (x : DeliveryInput) (taken warehouse district customer : Bool) (line : OrderLine) → (taken ≡ true → is_none line.delivery_date ≡ true)
    → cond (is_some (cond taken (dated x line) line).delivery_date && warehouse && district && customer) (cond taken (dated x line) line).amount (pos 0)
    ≡ cond (is_some line.delivery_date && warehouse && district && customer) line.amount (pos 0) +ℤ cond (taken && warehouse && district && customer)
    line.amount (pos 0)
one_more x false w d c line new = nothing (cond (is_some line.delivery_date && w && d && c) line.amount (pos 0))
  where
    nothing : (a : ℤ) → a ≡ a +ℤ pos 0
    nothing a = omega (arith, ints)
one_more x true w d c line new = before line.delivery_date (new refl)
  where
    nothing : (a : ℤ) → a ≡ pos 0 +ℤ a
    nothing a = omega (arith, ints)

    before : (date : Option ℕ) → is_none date ≡ true → cond (w && d && c) line.amount (pos 0) ≡ cond (is_some date && w && d && c) line.amount (pos 0) +ℤ cond
        (w && d && c) line.amount (pos 0)
    before None none = nothing (cond (w && d && c) line.amount (pos 0))
    before (Some a) none = absurd (true≢false (sym none))

by_district : (taken warehouse district customer : Bool) (a : ℤ) → cond (taken && warehouse && district && customer) a (pos 0) ≡ cond (warehouse && district)
    (cond taken (cond customer a (pos 0)) (pos 0)) (pos 0)
by_district true true true c a = refl
by_district true true false c a = refl
by_district true false d c a = refl
by_district false true true c a = refl
by_district false true false c a = refl
by_district false false d c a = refl

module _ (t : Database) (x : DeliveryInput) (k : CustomerKey) where
  abbrev home : DistrictKey
  home = record { warehouse = k.warehouse; district = k.district }

  -- a line of the order with the number o, where the order w was taken
  same_number : (w : Option ℕ) (o : ℕ) (a : ℤ) → cond (option_map_or (λ m. m == o) w false) (cond (is_order_of t (order_at k o) k.customer) a (pos 0)) (pos 0)
      ≡ option_map_or (λ m. cond (is_order_of t (order_at k m) k.customer) (cond (o == m) a (pos 0)) (pos 0)) w (pos 0)
  same_number None o a = refl
  same_number (Some m) o a =
      elim (m == o) as (λ b. (m == o) ≡ b → cond b (cond (is_order_of t (order_at k o) k.customer) a (pos 0)) (pos 0) ≡ cond
      (is_order_of t (order_at k m) k.customer) (cond (o == m) a (pos 0)) (pos 0)) [
        | true ↦ λ e.
            let same : o ≡ m = sym (eqb-true m o e) in
            let turned : true ≡ (o == m) = grind (arith, nat_tests) in
            (λ i. cond (is_order_of t (order_at k (same i)) k.customer) (cond (turned i) a (pos 0)) (pos 0))
        | false ↦ λ e.
            let turned : false ≡ (o == m) = grind (arith, nat_tests) in
            zero (is_order_of t (order_at k m) k.customer) ∙ (λ i. cond (is_order_of t (order_at k m) k.customer) (cond (turned i) a (pos 0)) (pos 0))
      ] refl
    where
      zero : (b : Bool) → pos 0 ≡ cond b (pos 0) (pos 0)
      zero true = refl
      zero false = refl

  -- of another district none is
  nothing_elsewhere : (w : Option ℕ) → pos 0 ≡ option_map_or (λ m. cond (is_order_of t (order_at k m) k.customer) (pos 0) (pos 0)) w (pos 0)
  nothing_elsewhere None = refl
  nothing_elsewhere (Some m) = elim (is_order_of t (order_at k m) k.customer) as (λ b. pos 0 ≡ cond b (pos 0) (pos 0)) [ true ↦ refl | false ↦ refl ]

  dated_part : (j : LineKey) (line : OrderLine)
      → cond (is_taken t x (order_of j) && (j.warehouse == k.warehouse) && (j.district == k.district) && is_order_of t (order_of j) k.customer) line.amount
      (pos 0) ≡ part t k (taken t x home) j line
  dated_part j line =
      by_district (is_taken t x (order_of j)) (j.warehouse == k.warehouse) (j.district == k.district) (is_order_of t (order_of j) k.customer) line.amount
      ∙ elim ((j.warehouse == k.warehouse) && (j.district == k.district)) as (λ b. ((j.warehouse == k.warehouse) && (j.district == k.district)) ≡ b
      → cond b (cond (is_taken t x (order_of j)) (cond (is_order_of t (order_of j) k.customer) line.amount (pos 0)) (pos 0)) (pos 0)
      ≡ option_map_or (λ o. cond (is_order_of t (order_at k o) k.customer) (cond (b && (j.order == o)) line.amount (pos 0)) (pos 0)) (taken t x home) (pos 0)) [
        | true ↦ λ e.
            let named : ◌≡◌ {A = DistrictKey} (record { warehouse = j.warehouse; district = j.district }) home = district_named j.warehouse j.district home e in
            (λ i. cond (option_map_or (λ o. o == j.order) (taken t x (named i)) false)
            (cond (is_order_of t (record { warehouse = (named i).warehouse; district = (named i).district; order = j.order }) k.customer) line.amount
            (pos 0)) (pos 0))
            ∙ same_number (taken t x home) j.order line.amount
        | false ↦ λ e. nothing_elsewhere (taken t x home)
      ] refl

  -- an order stays its customer's
  customer_stays : (j : LineKey) → is_order_of (after_delivery t x) (order_of j) k.customer ≡ is_order_of t (order_of j) k.customer
  customer_stays j = kept-update_where exact_order (is_taken t x) (carried x)
      (λ (w : Option Order). option_map_or (λ order. order.customer == k.customer) w false) t.orders (order_of j) (λ _ r. refl)

  pub delivered_after : IsWellFormed t → IsConsistent t → delivered_amount (after_delivery t x) k ≡ delivered_amount t k +ℤ raise t k (taken t x home)
  delivered_after wf con =
      total-mapped (λ j line. cond (is_line_of (after_delivery t x).orders k j line) line.amount (pos 0))
      (λ j line. cond (is_taken t x (order_of j)) (dated x line) line) t.lines
      ∙ total-alike exact_line
      (λ j line. cond (is_line_of (after_delivery t x).orders k j (cond (is_taken t x (order_of j)) (dated x line) line))
      (cond (is_taken t x (order_of j)) (dated x line) line).amount (pos 0))
      (λ j line. cond (is_line_of t.orders k j line) line.amount (pos 0) +ℤ part t k (taken t x home) j line)
      t.lines
      (λ j line found.
      ap (λ c. cond (is_some (cond (is_taken t x (order_of j)) (dated x line) line).delivery_date && (j.warehouse == k.warehouse) && (j.district == k.district)
      && c) (cond (is_taken t x (order_of j)) (dated x line) line).amount (pos 0)) (customer_stays j)
      ∙ one_more x (is_taken t x (order_of j)) (j.warehouse == k.warehouse) (j.district == k.district) (is_order_of t (order_of j) k.customer) line
      (not_delivered t x wf con j line found)
      ∙ ap (λ a. cond (is_line_of t.orders k j line) line.amount (pos 0) +ℤ a) (dated_part j line))
      ∙ total-added (λ j line. cond (is_line_of t.orders k j line) line.amount (pos 0)) (part t k (taken t x home)) t.lines
      ∙ ap (λ a. delivered_amount t k +ℤ a) (parts t k (taken t x home))

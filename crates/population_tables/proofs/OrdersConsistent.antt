-- The orders of a seeded population are consistent (TPC-C 3.3.2.2 to 3.3.2.7).
use Rattle.std.proofs.Common.{◌≡◌, ℕ, zero, suc, ◌+◌, ◌-◌, ◌≤◌, ◌<◌, ℤ, pos, ◌+ℤ◌, Bool, true, false, cond, not, Option, Some, None, is_some}
use Rattle.std.proofs.Common.{is_none, length, refl, sym, ap, subst, ◌∙◌, arith}
use Rattle.std.specs.Prelude.{nat_lt, nat_le, IsSome}
use Rattle.std.specs.Option.{option_map_or}
use Rattle.std.specs.FinMap.{get}
use Rattle.std.proofs.lemmas.Bool.Decides.{nat_tests}
use Rattle.std.proofs.lemmas.Int.{ints}
use Rattle.tables.specs.Sizes.{IsNumber}
use Rattle.tables.specs.Keys.{order_key, IsDistrictKey, is_district, is_order, order_of}
use Rattle.tables.specs.Maps.{sum_of, count, column}
use Rattle.tables.specs.NewOrder.{line_key}
use Rattle.tables.specs.OrderNumbers.{least, greatest, numbers_in, next_order}
use Rattle.tables.specs.Database.{Database}
use Rattle.tables.specs.Conditions.{Condition2At, Condition3At, Condition4At, Condition5At, Condition6At, Condition7At}
use Rattle.tables.specs.declared.keys.DistrictKey.{DistrictKey}
use Rattle.tables.specs.declared.keys.OrderKey.{OrderKey}
use Rattle.tables.specs.declared.keys.LineKey.{LineKey}
use Rattle.tables.specs.declared.rows.District.{District}
use Rattle.tables.specs.declared.rows.Order.{Order}
use Rattle.tables.specs.declared.rows.NewOrder.{NewOrder}
use Rattle.tables.specs.declared.rows.OrderLine.{OrderLine}
use Rattle.tables.proofs.Orders.{exact_line}
use Rattle.population_tables.specs.Plain.{numbers, delivered_orders, is_delivered, IsPlainOrderKey}
use Rattle.population_tables.specs.First.{IsFit, IsSeeded, first_line_count}
use Rattle.population_tables.proofs.PlainRows.{null_unless}
use Rattle.population_tables.proofs.Sound.{fifteen}
use Rattle.population_tables.proofs.TableRows.{found, each, missing, column_of}
use Rattle.population_tables.proofs.Parts.{district_total, order_total, total_parts}
use Rattle.population_tables.proofs.OrderNumbers.{numbers_counted, greatest_number, least_number}
use Rattle.population_tables.proofs.Sums.{sum_more, sum_same}

-- how many of the numbers from 1 to n are above d
numbers_above : (d n : ℕ) (f : ℕ → ℤ) → ((i : ℕ) → IsNumber n i → f i ≡ cond (nat_lt d i) (pos 1) (pos 0)) → sum_of f (numbers n) ≡ pos (n - d)
numbers_above d zero f is = omega (arith, ints)
numbers_above d (suc n) f is = sum_more f n ∙ more (sum_of f (numbers n)) (f (suc n)) (numbers_above d n f (λ i h. is i (h.0, omega arith)))
    (is (suc n) (omega arith, omega arith))
  where
    more : (a b : ℤ) → a ≡ pos (n - d) → b ≡ cond (nat_lt d (suc n)) (pos 1) (pos 0) → a +ℤ b ≡ pos (suc n - d)
    more a b p q = elim (nat_lt d (suc n)) as (λ c. nat_lt d (suc n) ≡ c → b ≡ cond c (pos 1) (pos 0) → a +ℤ b ≡ pos (suc n - d)) [
      | true ↦ λ t e. let above : d ≤ n = grind (arith, nat_tests) in omega (arith, ints)
      | false ↦ λ t e. let below : n < d = grind (arith, nat_tests) in omega (arith, ints)
    ] refl q

-- c of the numbers from 1 to n are at most c
numbers_up_to : (c n : ℕ) (f : ℕ → ℤ) → ((i : ℕ) → IsNumber n i → f i ≡ cond (nat_le i c) (pos 1) (pos 0)) → sum_of f (numbers n) ≡ pos (n - (n - c))
numbers_up_to c zero f is = omega (arith, ints)
numbers_up_to c (suc n) f is = sum_more f n ∙ more (sum_of f (numbers n)) (f (suc n)) (numbers_up_to c n f (λ i h. is i (h.0, omega arith)))
    (is (suc n) (omega arith, omega arith))
  where
    more : (a b : ℤ) → a ≡ pos (n - (n - c)) → b ≡ cond (nat_le (suc n) c) (pos 1) (pos 0) → a +ℤ b ≡ pos (suc n - (suc n - c))
    more a b p q = elim (nat_le (suc n) c) as (λ d. nat_le (suc n) c ≡ d → b ≡ cond d (pos 1) (pos 0) → a +ℤ b ≡ pos (suc n - (suc n - c))) [
      | true ↦ λ t e. let within : suc n ≤ c = grind (arith, nat_tests) in omega (arith, ints)
      | false ↦ λ t e. let past : c ≤ n = grind (arith, nat_tests) in omega (arith, ints)
    ] refl q

one_or_none : {X : Type 0} (b : Bool) (x : X) → option_map_or {T = X} (λ r. pos 1) (cond b (Some x) None) (pos 0) ≡ cond b (pos 1) (pos 0)
one_or_none true x = refl
one_or_none false x = refl

some_where : {X : Type 0} (b : Bool) (x : X) → is_some (cond b (Some x) None) ≡ b
some_where true x = refl
some_where false x = refl

module _ (t : Database) (fit : IsFit t.scale) (seeded : IsSeeded t.scale t) where
  -- fewer orders are delivered than there are
  fewer_delivered : delivered_orders t.scale + 1 ≤ t.scale.customers
  fewer_delivered = omega (arith, fit.some_customers)

  next : (k : DistrictKey) → IsDistrictKey t.scale k → next_order t k ≡ t.scale.customers + 1
  next k is =
      let row = seeded.districts.rows k is in
      (λ i. option_map_or (λ (r : District). r.next_order) (row.1 i) 0) ∙ row.2.next_order

  greatest_order : (k : DistrictKey) → IsDistrictKey t.scale k → greatest (numbers_in k t.orders) ≡ t.scale.customers
  greatest_order k is = greatest_number k 1 t.scale.customers t.orders (each seeded.orders _ (λ j r h d _. h.2))
      (found seeded.orders _ (is.0, is.1, (omega (arith, fit.some_customers), omega arith)))

  greatest_new_order : (k : DistrictKey) → IsDistrictKey t.scale k → greatest (numbers_in k t.new_orders) ≡ t.scale.customers
  greatest_new_order k is = greatest_number k (delivered_orders t.scale + 1) t.scale.customers t.new_orders
      (each seeded.new_orders _ (λ j r h d _. h.2)) (found seeded.new_orders _ (is.0, is.1, (omega (arith, fewer_delivered), omega arith)))

  least_new_order : (k : DistrictKey) → IsDistrictKey t.scale k → (x : ℕ) → least (numbers_in k t.new_orders) ≡ Some x → x ≡ delivered_orders t.scale + 1
  least_new_order k is = least_number k (delivered_orders t.scale + 1) t.scale.customers t.new_orders (each seeded.new_orders _ (λ j r h d _. h.2))
      (found seeded.new_orders _ (is.0, is.1, (omega arith, omega (arith, fewer_delivered))))

  -- an order has a NEW-ORDER row exactly where it isn't delivered
  new_order_there : (k : OrderKey) → IsPlainOrderKey t.scale k → get t.new_orders k ≡ cond (nat_lt (delivered_orders t.scale) k.order) (Some (record {})) None
  new_order_there k h = elim (nat_lt (delivered_orders t.scale) k.order) as
      (λ b. nat_lt (delivered_orders t.scale) k.order ≡ b → get t.new_orders k ≡ cond b (Some (record {})) None) [
        | true ↦ λ e. let row = seeded.new_orders.rows k (h.0, h.1, (grind (arith, nat_tests), h.2.1)) in row.1 ∙ ap Some row.2
        | false ↦ λ e. let delivered : k.order ≤ delivered_orders t.scale = grind (arith, nat_tests) in missing seeded.new_orders k (λ is. omega (arith, is.2))
      ] refl

  one_there : (k : OrderKey) → IsPlainOrderKey t.scale k → column (λ r. pos 1) t.new_orders k ≡ cond (nat_lt (delivered_orders t.scale) k.order) (pos 1) (pos 0)
  one_there k h = ap (λ (o : Option NewOrder). option_map_or (λ r. pos 1) o (pos 0)) (new_order_there k h)
      ∙ one_or_none (nat_lt (delivered_orders t.scale) k.order) (record {})

  pub condition_2 : (k : DistrictKey) → IsDistrictKey t.scale k → Condition2At t k
  condition_2 k is = (omega (arith, greatest_order k is, next k is), λ first e. omega (arith, greatest_new_order k is, next k is))

  new_orders_number : (k : DistrictKey) → IsDistrictKey t.scale k → length (numbers_in k t.new_orders) ≡ t.scale.customers - delivered_orders t.scale
  new_orders_number k is =
      let counted : pos (length (numbers_in k t.new_orders)) ≡ pos (t.scale.customers - delivered_orders t.scale) =
      numbers_counted k t.new_orders
      ∙ district_total (λ r. pos 1) k t.scale.customers t.new_orders (each seeded.new_orders _ (λ j r h d. (omega (arith, h.2), h.2.1)))
      ∙ numbers_above (delivered_orders t.scale) t.scale.customers _ (λ o h. one_there (order_key k o) (is.0, is.1, h)) in
      omega (arith, ints, counted)

  pub condition_3 : (k : DistrictKey) → IsDistrictKey t.scale k → Condition3At t k
  condition_3 k is first e = omega (arith, fewer_delivered, greatest_new_order k is, least_new_order k is first e, new_orders_number k is)

  -- an order has a line of each number up to its O_OL_CNT
  line_there : (k : OrderKey) → IsPlainOrderKey t.scale k → (l : ℕ) → 1 ≤ l
      → column (λ r. pos 1) t.lines (line_key k l) ≡ cond (nat_le l (first_line_count t.orders k)) (pos 1) (pos 0)
  line_there k h l from = elim (nat_le l (first_line_count t.orders k)) as
      (λ b. nat_le l (first_line_count t.orders k) ≡ b → column (λ r. pos 1) t.lines (line_key k l) ≡ cond b (pos 1) (pos 0)) [
        | true ↦ λ e. column_of seeded.lines (λ r. pos 1) (line_key k l) (pos 1) (h, (from, grind (arith, nat_tests))) (λ r d. refl)
        | false ↦ λ e.
            let past : first_line_count t.orders k < l = grind (arith, nat_tests) in
            ap (λ (o : Option OrderLine). option_map_or (λ r. pos 1) o (pos 0)) (missing seeded.lines (line_key k l) (λ is. omega (arith, is.1)))
      ] refl

  counted : (k : OrderKey) → IsPlainOrderKey t.scale k → (order : Order) × (get t.orders k ≡ Some order) × (first_line_count t.orders k ≡ order.line_count)
      × (order.line_count ≤ 15)
  counted k h =
      let row = seeded.orders.rows k h in
      (row.0, row.1, λ i. option_map_or (λ (r : Order). r.line_count) (row.1 i) 0, omega (arith, row.2.line_count))

  -- as many lines as O_OL_CNT
  order_lines : (k : OrderKey) → IsPlainOrderKey t.scale k → count (λ j line. is_order j.warehouse j.district j.order k) t.lines ≡ pos (first_line_count t.orders k)
  order_lines k h =
      let row = counted k h in
      order_total (λ r. pos 1) k 15 t.lines (each seeded.lines _ (λ j r is d. (is.1.0, fifteen t fit seeded j is)))
      ∙ numbers_up_to (first_line_count t.orders k) 15 _ (λ l is. line_there k h l is.0)
      ∙ ap pos (omega (arith, row.2, row.3))

  pub condition_4 : (k : DistrictKey) → IsDistrictKey t.scale k → Condition4At t k
  condition_4 k is =
      district_total (λ r. pos r.line_count) k t.scale.customers t.orders (each seeded.orders _ (λ j r h d. h.2))
      ∙ sum_same _ _ t.scale.customers (λ o h.
      let row = counted (order_key k o) (is.0, is.1, h) in
      (λ i. option_map_or (λ (r : Order). pos r.line_count) (row.1 i) (pos 0)) ∙ ap pos (sym row.2)
      ∙ sym (order_lines (order_key k o) (is.0, is.1, h)))
      ∙ sym (total_parts exact_line (λ r. pos 1) (λ j. is_district j.warehouse j.district k) (λ j. j.order) t.scale.customers t.lines
      (each seeded.lines _ (λ j r h d. h.0.2)))

  pub condition_5 : (k : OrderKey) → Condition5At t k
  condition_5 = each seeded.orders (λ k order. is_none order.carrier ≡ is_some (get t.new_orders k)) (λ k r h d.
      let opposite : not (is_delivered t.scale k.order) ≡ nat_lt (delivered_orders t.scale) k.order = grind (arith, nat_tests) in
      d.delivered ∙ opposite ∙ sym (some_where (nat_lt (delivered_orders t.scale) k.order) (record {})) ∙ ap is_some (sym (new_order_there k h)))

  pub condition_6 : (k : OrderKey) → Condition6At t k
  condition_6 k r is_row = sym
      (order_lines k (seeded.orders.only k (subst IsSome (sym is_row) refl))
      ∙ ap (λ (o : Option Order). pos (option_map_or (λ (r : Order). r.line_count) o 0)) is_row)

  pub condition_7 : (k : LineKey) → Condition7At t k
  condition_7 = each seeded.lines (λ k line. is_none line.delivery_date ≡ option_map_or (λ order. is_none order.carrier) (get t.orders (order_of k)) true)
      (λ k r h d.
      let row = seeded.orders.rows (order_of k) h.0 in
      ap is_none d.delivery_date ∙ null_unless (is_delivered t.scale k.order) ∙ sym row.2.delivered
      ∙ sym (ap (λ (o : Option Order). option_map_or (λ order. is_none order.carrier) o true) row.1))

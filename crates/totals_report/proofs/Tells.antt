-- Conditions by the words of records and by totals.
use Rattle.std.proofs.Common.{◌≡◌, ℕ, ◌+◌, ◌-◌, ◌≤◌, ◌==◌, ◌⊎◌, inl, inr, ◌↔◌, IsTrue, pos, ◌+ℤ◌, ◌-ℤ◌, Bool, true, false, true≢false, Option, Some, None, is_some, is_none, List, [], ◌∷◌, length, slice_index, unwrap_or, refl, sym, ap, ◌∙◌, subst, arith}
use Rattle.std.proofs.lemmas.Int.{ints}
use Rattle.std.proofs.lemmas.Option.{same_Some}
use Rattle.std.specs.Option.{option_map, option_map_or, ForSome}
use Rattle.std.specs.FinMap.{get}
use Rattle.tables.specs.Keys.{IsWarehouseKey, IsDistrictKey, IsCustomerKey, IsOrderKey, order_of}
use Rattle.tables.specs.Records.{district_place, customer_place, order_place}
use Rattle.tables.specs.Rows.{row_at, money_of, warehouse_words, district_words, customer_words, order_words, new_order_words, line_words}
use Rattle.tables.specs.OrderNumbers.{least, greatest, numbers_in, next_order}
use Rattle.tables.specs.Conditions.{Condition1At, Condition2At, Condition3At, Condition4At, Condition5At, Condition6At, Condition7At, Condition8At, Condition9At}
use Rattle.tables.specs.Conditions.{Condition10At, Condition12At, WhereWaiting}
use Rattle.tables.specs.Database.{Database}
use Rattle.tables.specs.declared.keys.DistrictKey.{DistrictKey}
use Rattle.tables.specs.declared.keys.CustomerKey.{CustomerKey}
use Rattle.tables.specs.declared.keys.OrderKey.{OrderKey}
use Rattle.tables.specs.declared.keys.LineKey.{LineKey}
use Rattle.tables.specs.declared.rows.Order.{Order}
use Rattle.tables.specs.declared.rows.OrderLine.{OrderLine}
use Rattle.tables.specs.declared.records.RecordKey.TheVariants as key
use Rattle.totals.specs.Totals.{SumsView, amount_in}
use Rattle.totals.proofs.Sums.{money_back, count_back}
use Rattle.totals_bounds.specs.Bounds.{BoundsView}
use Rattle.totals_report.specs.Words.{is_zero, has_none}
use Rattle.totals_report.specs.Told.{HasTotals}

-- equations whose sides are the same
pub equal_sides : {A : Type 0} {a b x y : A} → a ≡ x → b ≡ y → (a ≡ b) ↔ (x ≡ y)
equal_sides p q = ((λ e. sym p ∙ e ∙ q), (λ e. p ∙ e ∙ sym q))

pub through : {A B : Type 0} {holds : Bool} → IsTrue holds ↔ A → A ↔ B → IsTrue holds ↔ B
through says same = ((λ h. same.0 (says.0 h)), (λ b. says.1 (same.1 b)))

-- the row of words that are there
row_of : {X : Type 0} (words : X → List ℕ) (w : Option X) (ws : List ℕ) → option_map words w ≡ Some ws → (r : X) × (w ≡ Some r) × (ws ≡ words r)
row_of words None ws e = absurd (true≢false (sym (ap is_some e)))
row_of words (Some r) ws e = (r, refl, sym (same_Some (words r) ws e))

-- a column that may be null is 0 where it is
null_is_zero : (o : Option ℕ) → ForSome o (λ n. 1 ≤ n) → is_zero (unwrap_or o 0) ≡ is_none o
null_is_zero None h = refl
null_is_zero (Some n) h = some n (h n refl)
  where
    some : (n : ℕ) → 1 ≤ n → (n == 0) ≡ false
    some n h = grind (arith, h)

-- where numbers wait
none_wait : (P : ℕ → Type 0) (ns : List ℕ) → pos (length ns) ≡ pos 0 → ForSome (least ns) P
none_wait P [] e = λ n f. absurd (true≢false (sym (ap is_some f)))
none_wait P (n ∷ ns) e = absurd (omega (arith, ints, e))

some_wait : (Q : Type 0) (P : ℕ → Type 0) (ns : List ℕ) → ((first : ℕ) → least ns ≡ Some first → P first → Q) → ForSome (least ns) P → (pos (length ns) ≡ pos 0) ⊎ Q
some_wait Q P [] f h = inl refl
some_wait Q P (n ∷ ns) f h = inr (f _ refl (h _ refl))

module _ (v : SumsView) (b : BoundsView) (t : Database) (h : HasTotals v b t) where
  pub told_1 : (w : ℕ) → IsWarehouseKey t.scale w → (ws : List ℕ) → row_at t (key.Warehouse w) ≡ Some ws
      → (money_of (slice_index ws 0) ≡ amount_in v.year_to_date (w - 1)) ↔ Condition1At t w
  told_1 w is ws at =
      let r = row_of warehouse_words (get t.warehouses w) ws at in
      equal_sides (ap (λ q. money_of (slice_index q 0)) r.2 ∙ money_back r.0.year_to_date (h.well_formed.warehouse_rows w r.0 r.1)
      ∙ sym (ap (λ o. option_map_or (λ r. r.year_to_date) o (pos 0)) r.1)) (h.sums.year_to_date w is)

  pub told_8 : (w : ℕ) → IsWarehouseKey t.scale w → (ws : List ℕ) → row_at t (key.Warehouse w) ≡ Some ws
      → (money_of (slice_index ws 0) ≡ amount_in v.paid_at_warehouse (w - 1)) ↔ Condition8At t w
  told_8 w is ws at =
      let r = row_of warehouse_words (get t.warehouses w) ws at in
      equal_sides (ap (λ q. money_of (slice_index q 0)) r.2 ∙ money_back r.0.year_to_date (h.well_formed.warehouse_rows w r.0 r.1)
      ∙ sym (ap (λ o. option_map_or (λ r. r.year_to_date) o (pos 0)) r.1)) (h.sums.paid_at_warehouse w is)

  pub told_4 : (k : DistrictKey) → IsDistrictKey t.scale k
      → (amount_in v.line_counts (district_place t.scale k.warehouse k.district) ≡ amount_in v.district_lines (district_place t.scale k.warehouse k.district)) ↔ Condition4At t k
  told_4 k is = equal_sides (h.sums.line_counts k is) (h.sums.district_lines k is)

  pub told_9 : (k : DistrictKey) → IsDistrictKey t.scale k → (ws : List ℕ) → row_at t (key.District k) ≡ Some ws
      → (money_of (slice_index ws 0) ≡ amount_in v.paid_at_district (district_place t.scale k.warehouse k.district)) ↔ Condition9At t k
  told_9 k is ws at =
      let r = row_of district_words (get t.districts k) ws at in
      equal_sides (ap (λ q. money_of (slice_index q 0)) r.2 ∙ money_back r.0.year_to_date (h.well_formed.district_rows k r.0 r.1).year_to_date
      ∙ sym (ap (λ o. option_map_or (λ r. r.year_to_date) o (pos 0)) r.1)) (h.sums.paid_at_district k is)

  next_told : (k : DistrictKey) (ws : List ℕ) → row_at t (key.District k) ≡ Some ws → slice_index ws 1 ≡ next_order t k
  next_told k ws at =
      let r = row_of district_words (get t.districts k) ws at in
      ap (λ q. slice_index q 1) r.2 ∙ sym (ap (λ o. option_map_or (λ r. r.next_order) o 0) r.1)

  pub told_2 : (k : DistrictKey) → IsDistrictKey t.scale k → (ws : List ℕ) → row_at t (key.District k) ≡ Some ws
      → ((slice_index b.greatest_order (district_place t.scale k.warehouse k.district) + 1 ≡ slice_index ws 1)
      × ((amount_in v.waiting (district_place t.scale k.warehouse k.district) ≡ pos 0)
      ⊎ (slice_index b.greatest_waiting (district_place t.scale k.warehouse k.district) + 1 ≡ slice_index ws 1))) ↔ Condition2At t k
  told_2 k is ws at =
      let next = next_told k ws at in
      let orders = equal_sides (ap (λ n. n + 1) (h.bounds.greatest_order k is)) next in
      let new_orders = equal_sides (ap (λ n. n + 1) (h.bounds.greatest_waiting k is)) next in
      let ns = numbers_in k t.new_orders in (
        (λ e. (orders.0 e.0, either e.1)),
        (λ c. (orders.1 c.0, turned (some_wait (greatest ns + 1 ≡ next_order t k) (λ first. greatest ns + 1 ≡ next_order t k) ns (λ first f e. e) c.1))),
      )
    where
      either : (amount_in v.waiting (district_place t.scale k.warehouse k.district) ≡ pos 0)
          ⊎ (slice_index b.greatest_waiting (district_place t.scale k.warehouse k.district) + 1 ≡ slice_index ws 1)
          → WhereWaiting t k (λ first. greatest (numbers_in k t.new_orders) + 1 ≡ next_order t k)
      either (inl none) = none_wait _ (numbers_in k t.new_orders) (sym (h.sums.waiting k is) ∙ none)
      either (inr e) = λ first f. (equal_sides (ap (λ n. n + 1) (h.bounds.greatest_waiting k is)) (next_told k ws at)).0 e

      turned : (pos (length (numbers_in k t.new_orders)) ≡ pos 0) ⊎ (greatest (numbers_in k t.new_orders) + 1 ≡ next_order t k)
          → (amount_in v.waiting (district_place t.scale k.warehouse k.district) ≡ pos 0)
          ⊎ (slice_index b.greatest_waiting (district_place t.scale k.warehouse k.district) + 1 ≡ slice_index ws 1)
      turned (inl none) = inl (h.sums.waiting k is ∙ none)
      turned (inr e) = inr ((equal_sides (ap (λ n. n + 1) (h.bounds.greatest_waiting k is)) (next_told k ws at)).1 e)

  pub told_3 : (k : DistrictKey) → IsDistrictKey t.scale k
      → ((amount_in v.waiting (district_place t.scale k.warehouse k.district) ≡ pos 0)
      ⊎ (pos (slice_index b.greatest_waiting (district_place t.scale k.warehouse k.district) + 1)
      ≡ pos (slice_index b.least_waiting (district_place t.scale k.warehouse k.district)) +ℤ amount_in v.waiting (district_place t.scale k.warehouse k.district)))
      ↔ Condition3At t k
  told_3 k is = (
    either,
    (λ c. turned (some_wait _ (λ first. greatest (numbers_in k t.new_orders) + 1 ≡ first + length (numbers_in k t.new_orders))
        (numbers_in k t.new_orders) (λ first f e. from first f e) c)),
  )
    where
      span : ℕ → Type 0
      span first = pos (greatest (numbers_in k t.new_orders) + 1) ≡ pos first +ℤ pos (length (numbers_in k t.new_orders))

      least_is : (first : ℕ) → least (numbers_in k t.new_orders) ≡ Some first → slice_index b.least_waiting (district_place t.scale k.warehouse k.district) ≡ first
      least_is first f = h.bounds.least_waiting k is ∙ ap (λ o. unwrap_or o 0) f

      in_view : (first : ℕ) → least (numbers_in k t.new_orders) ≡ Some first
          → (pos (slice_index b.greatest_waiting (district_place t.scale k.warehouse k.district) + 1)
          ≡ pos (slice_index b.least_waiting (district_place t.scale k.warehouse k.district)) +ℤ amount_in v.waiting (district_place t.scale k.warehouse k.district))
          ↔ span first
      in_view first f = equal_sides (ap (λ n. pos (n + 1)) (h.bounds.greatest_waiting k is)) (λ i. pos (least_is first f i) +ℤ h.sums.waiting k is i)

      down : (g first n : ℕ) → pos (g + 1) ≡ pos first +ℤ pos n → g + 1 ≡ first + n
      down g first n e = omega (arith, ints, e)

      up : (g first n : ℕ) → g + 1 ≡ first + n → pos (g + 1) ≡ pos first +ℤ pos n
      up g first n e = omega (arith, ints, e)

      from : (first : ℕ) → least (numbers_in k t.new_orders) ≡ Some first → greatest (numbers_in k t.new_orders) + 1 ≡ first + length (numbers_in k t.new_orders)
          → pos (slice_index b.greatest_waiting (district_place t.scale k.warehouse k.district) + 1)
          ≡ pos (slice_index b.least_waiting (district_place t.scale k.warehouse k.district)) +ℤ amount_in v.waiting (district_place t.scale k.warehouse k.district)
      from first f e = (in_view first f).1 (up (greatest (numbers_in k t.new_orders)) first (length (numbers_in k t.new_orders)) e)

      either : (amount_in v.waiting (district_place t.scale k.warehouse k.district) ≡ pos 0)
          ⊎ (pos (slice_index b.greatest_waiting (district_place t.scale k.warehouse k.district) + 1)
          ≡ pos (slice_index b.least_waiting (district_place t.scale k.warehouse k.district)) +ℤ amount_in v.waiting (district_place t.scale k.warehouse k.district))
          → Condition3At t k
      either (inl none) = none_wait _ (numbers_in k t.new_orders) (sym (h.sums.waiting k is) ∙ none)
      either (inr e) = λ first f. down (greatest (numbers_in k t.new_orders)) first (length (numbers_in k t.new_orders)) ((in_view first f).0 e)

      turned : (pos (length (numbers_in k t.new_orders)) ≡ pos 0)
          ⊎ (pos (slice_index b.greatest_waiting (district_place t.scale k.warehouse k.district) + 1)
          ≡ pos (slice_index b.least_waiting (district_place t.scale k.warehouse k.district)) +ℤ amount_in v.waiting (district_place t.scale k.warehouse k.district))
          → (amount_in v.waiting (district_place t.scale k.warehouse k.district) ≡ pos 0)
          ⊎ (pos (slice_index b.greatest_waiting (district_place t.scale k.warehouse k.district) + 1)
          ≡ pos (slice_index b.least_waiting (district_place t.scale k.warehouse k.district)) +ℤ amount_in v.waiting (district_place t.scale k.warehouse k.district))
      turned (inl none) = inl (h.sums.waiting k is ∙ none)
      turned (inr e) = inr e

  pub told_10 : (k : CustomerKey) → IsCustomerKey t.scale k → (ws : List ℕ) → row_at t (key.Customer k) ≡ Some ws
      → (money_of (slice_index ws 0) ≡ amount_in v.delivered (customer_place t.scale k) -ℤ amount_in v.paid_by_customer (customer_place t.scale k)) ↔ Condition10At t k
  told_10 k is ws at =
      let r = row_of customer_words (get t.customers k) ws at in
      equal_sides (ap (λ q. money_of (slice_index q 0)) r.2 ∙ money_back r.0.balance (h.well_formed.customer_rows k r.0 r.1).balance
      ∙ sym (ap (λ o. option_map_or (λ r. r.balance) o (pos 0)) r.1))
      (λ i. h.sums.delivered k is i -ℤ h.sums.paid_by_customer k is i)

  pub told_12 : (k : CustomerKey) → IsCustomerKey t.scale k → (ws : List ℕ) → row_at t (key.Customer k) ≡ Some ws
      → (money_of (slice_index ws 0) +ℤ money_of (slice_index ws 1) ≡ amount_in v.delivered (customer_place t.scale k)) ↔ Condition12At t k
  told_12 k is ws at =
      let r = row_of customer_words (get t.customers k) ws at in
      let row = h.well_formed.customer_rows k r.0 r.1 in
      equal_sides (ap (λ q. money_of (slice_index q 0) +ℤ money_of (slice_index q 1)) r.2
      ∙ (λ i. money_back r.0.balance row.balance i +ℤ money_back r.0.paid row.paid i)
      ∙ sym (ap (λ o. option_map_or (λ r. r.balance) o (pos 0) +ℤ option_map_or (λ r. r.paid) o (pos 0)) r.1))
      (h.sums.delivered k is)

  pub told_6 : (k : OrderKey) → IsOrderKey t.scale k → (ws : List ℕ) → row_at t (key.Order k) ≡ Some ws
      → (money_of (slice_index ws 3) ≡ amount_in v.order_lines (order_place t.scale k)) ↔ Condition6At t k
  told_6 k is ws at =
      let r = row_of order_words (get t.orders k) ws at in
      let sides = equal_sides (ap (λ q. money_of (slice_index q 3)) r.2 ∙ sym (count_back r.0.line_count (h.well_formed.order_rows k r.0 r.1).line_count.1))
      (h.sums.order_lines k is) in
      ((λ e o f. ap (λ (q : Order). pos q.line_count) (same_Some o r.0 (sym f ∙ r.1)) ∙ sides.0 e), (λ c. sides.1 (c r.0 r.1)))

  pub told_5 : (k : OrderKey) (ws : List ℕ) (new_order : Option (List ℕ)) → row_at t (key.Order k) ≡ Some ws → row_at t (key.NewOrder k) ≡ new_order
      → (is_zero (slice_index ws 2) ≡ is_some new_order) ↔ Condition5At t k
  told_5 k ws new_order at beside =
      let r = row_of order_words (get t.orders k) ws at in
      let sides = equal_sides (ap (λ q. is_zero (slice_index q 2)) r.2
      ∙ null_is_zero r.0.carrier (λ n f. ((h.well_formed.order_rows k r.0 r.1).carrier n f).0))
      (ap is_some (sym beside) ∙ some_same new_order_words (get t.new_orders k)) in
      ((λ e o f. ap (λ (q : Order). is_none q.carrier) (same_Some o r.0 (sym f ∙ r.1)) ∙ sides.0 e), (λ c. sides.1 (c r.0 r.1)))
    where
      some_same : {X : Type 0} (f : X → List ℕ) (w : Option X) → is_some (option_map f w) ≡ is_some w
      some_same f None = refl
      some_same f (Some x) = refl

  pub told_7 : (k : LineKey) (ws : List ℕ) (order : Option (List ℕ)) → row_at t (key.OrderLine k) ≡ Some ws → row_at t (key.Order (order_of k)) ≡ order
      → (is_zero (slice_index ws 2) ≡ has_none order) ↔ Condition7At t k
  told_7 k ws order at beside =
      let r = row_of line_words (get t.lines k) ws at in
      let sides = equal_sides (ap (λ q. is_zero (slice_index q 2)) r.2
      ∙ null_is_zero r.0.delivery_date (λ n f. omega (arith, ((h.well_formed.line_rows k r.0 r.1).delivery_date n f).0)))
      (ap has_none (sym beside) ∙ none_same (get t.orders (order_of k)) refl) in
      ((λ e line f. ap (λ (q : OrderLine). is_none q.delivery_date) (same_Some line r.0 (sym f ∙ r.1)) ∙ sides.0 e), (λ c. sides.1 (c r.0 r.1)))
    where
      none_same : (w : Option Order) → get t.orders (order_of k) ≡ w → has_none (option_map order_words w) ≡ option_map_or (λ (o : Order). is_none o.carrier) w true
      none_same None e = refl
      none_same (Some o) e = null_is_zero o.carrier (λ n f. ((h.well_formed.order_rows (order_of k) o e).carrier n f).0)

  pub says_2 : (k : DistrictKey) → IsDistrictKey t.scale k → (ws : List ℕ) → row_at t (key.District k) ≡ Some ws → (holds : Bool) → IsTrue holds ↔ ((slice_index b.greatest_order (district_place b.scale k.warehouse k.district) + 1 ≡ slice_index ws 1) × ((amount_in v.waiting (district_place v.scale k.warehouse k.district) ≡ pos 0) ⊎ (slice_index b.greatest_waiting (district_place b.scale k.warehouse k.district) + 1 ≡ slice_index ws 1))) → IsTrue holds ↔ Condition2At t k
  says_2 k is ws at holds says = through
      (subst (λ s. IsTrue holds ↔ ((slice_index b.greatest_order (district_place s k.warehouse k.district) + 1 ≡ slice_index ws 1) × ((amount_in v.waiting (district_place t.scale k.warehouse k.district) ≡ pos 0) ⊎ (slice_index b.greatest_waiting (district_place s k.warehouse k.district) + 1 ≡ slice_index ws 1)))) h.bounds_scale
      (subst (λ s. IsTrue holds ↔ ((slice_index b.greatest_order (district_place b.scale k.warehouse k.district) + 1 ≡ slice_index ws 1) × ((amount_in v.waiting (district_place s k.warehouse k.district) ≡ pos 0) ⊎ (slice_index b.greatest_waiting (district_place b.scale k.warehouse k.district) + 1 ≡ slice_index ws 1)))) h.sums_scale says)) (told_2 k is ws at)

  pub says_3 : (k : DistrictKey) → IsDistrictKey t.scale k → (holds : Bool) → IsTrue holds ↔ ((amount_in v.waiting (district_place v.scale k.warehouse k.district) ≡ pos 0) ⊎ (pos (slice_index b.greatest_waiting (district_place b.scale k.warehouse k.district) + 1) ≡ pos (slice_index b.least_waiting (district_place b.scale k.warehouse k.district)) +ℤ amount_in v.waiting (district_place v.scale k.warehouse k.district))) → IsTrue holds ↔ Condition3At t k
  says_3 k is holds says = through
      (subst (λ s. IsTrue holds ↔ ((amount_in v.waiting (district_place t.scale k.warehouse k.district) ≡ pos 0) ⊎ (pos (slice_index b.greatest_waiting (district_place s k.warehouse k.district) + 1) ≡ pos (slice_index b.least_waiting (district_place s k.warehouse k.district)) +ℤ amount_in v.waiting (district_place t.scale k.warehouse k.district)))) h.bounds_scale
      (subst (λ s. IsTrue holds ↔ ((amount_in v.waiting (district_place s k.warehouse k.district) ≡ pos 0) ⊎ (pos (slice_index b.greatest_waiting (district_place b.scale k.warehouse k.district) + 1) ≡ pos (slice_index b.least_waiting (district_place b.scale k.warehouse k.district)) +ℤ amount_in v.waiting (district_place s k.warehouse k.district)))) h.sums_scale says)) (told_3 k is)

  pub says_4 : (k : DistrictKey) → IsDistrictKey t.scale k → (holds : Bool) → IsTrue holds ↔ (amount_in v.line_counts (district_place v.scale k.warehouse k.district) ≡ amount_in v.district_lines (district_place v.scale k.warehouse k.district)) → IsTrue holds ↔ Condition4At t k
  says_4 k is holds says = through
      (subst (λ s. IsTrue holds ↔ (amount_in v.line_counts (district_place s k.warehouse k.district) ≡ amount_in v.district_lines (district_place s k.warehouse k.district))) h.sums_scale says) (told_4 k is)

  pub says_9 : (k : DistrictKey) → IsDistrictKey t.scale k → (ws : List ℕ) → row_at t (key.District k) ≡ Some ws → (holds : Bool) → IsTrue holds ↔ (money_of (slice_index ws 0) ≡ amount_in v.paid_at_district (district_place v.scale k.warehouse k.district)) → IsTrue holds ↔ Condition9At t k
  says_9 k is ws at holds says = through
      (subst (λ s. IsTrue holds ↔ (money_of (slice_index ws 0) ≡ amount_in v.paid_at_district (district_place s k.warehouse k.district))) h.sums_scale says) (told_9 k is ws at)

  pub says_10 : (k : CustomerKey) → IsCustomerKey t.scale k → (ws : List ℕ) → row_at t (key.Customer k) ≡ Some ws → (holds : Bool) → IsTrue holds ↔ (money_of (slice_index ws 0) ≡ amount_in v.delivered (customer_place v.scale k) -ℤ amount_in v.paid_by_customer (customer_place v.scale k)) → IsTrue holds ↔ Condition10At t k
  says_10 k is ws at holds says = through
      (subst (λ s. IsTrue holds ↔ (money_of (slice_index ws 0) ≡ amount_in v.delivered (customer_place s k) -ℤ amount_in v.paid_by_customer (customer_place s k))) h.sums_scale says) (told_10 k is ws at)

  pub says_12 : (k : CustomerKey) → IsCustomerKey t.scale k → (ws : List ℕ) → row_at t (key.Customer k) ≡ Some ws → (holds : Bool) → IsTrue holds ↔ (money_of (slice_index ws 0) +ℤ money_of (slice_index ws 1) ≡ amount_in v.delivered (customer_place v.scale k)) → IsTrue holds ↔ Condition12At t k
  says_12 k is ws at holds says = through
      (subst (λ s. IsTrue holds ↔ (money_of (slice_index ws 0) +ℤ money_of (slice_index ws 1) ≡ amount_in v.delivered (customer_place s k))) h.sums_scale says) (told_12 k is ws at)

  pub says_6 : (k : OrderKey) → IsOrderKey t.scale k → (ws : List ℕ) → row_at t (key.Order k) ≡ Some ws → (holds : Bool) → IsTrue holds ↔ (money_of (slice_index ws 3) ≡ amount_in v.order_lines (order_place v.scale k)) → IsTrue holds ↔ Condition6At t k
  says_6 k is ws at holds says = through
      (subst (λ s. IsTrue holds ↔ (money_of (slice_index ws 3) ≡ amount_in v.order_lines (order_place s k))) h.sums_scale says) (told_6 k is ws at)

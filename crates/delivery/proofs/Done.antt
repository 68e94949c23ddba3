-- A district is done: what is changed at last, once the lines of the order that it takes have their dates.
use Rattle.std.proofs.Common.{◌≡◌, ◌≢◌, ℕ, ◌+◌, ◌≤◌, nat_le, Bool, true, false, not, cond, ◌==◌, ◌&&◌, ◌||◌, [], ◌∷◌, Option, Some, None, refl, sym, ap, ◌∙◌}
use Rattle.std.proofs.Common.{subst, arith, true≢false}
use Rattle.std.proofs.lemmas.Bool.{eqb-true}
use Rattle.std.proofs.lemmas.Bool.Decides.{nat_tests}
use Rattle.std.proofs.lemmas.Option.{same_Some}
use Rattle.std.specs.Option.{option_map, option_map_or, unwrap_or}
use Rattle.std.specs.FinMap.{get}
use Rattle.tables.specs.Keys.{is_order, order_of}
use Rattle.tables.specs.OrderNumbers.{next_order, numbers_in}
use Rattle.tables.specs.Database.{Database}
use Rattle.tables.specs.WellFormed.{IsWellFormed}
use Rattle.tables.specs.Rows.{row_at, customer_words, new_order_words, order_words, line_words, number_words}
use Rattle.tables.specs.Delivery.{waiting, is_order_of, carried, dated, credited, after_taken}
use Rattle.tables.specs.declared.keys.DistrictKey.{DistrictKey}
use Rattle.tables.specs.declared.keys.CustomerKey.{CustomerKey}
use Rattle.tables.specs.declared.keys.OrderKey.{OrderKey}
use Rattle.tables.specs.declared.keys.LineKey.{LineKey}
use Rattle.tables.specs.declared.rows.Customer.{Customer}
use Rattle.tables.specs.declared.rows.Order.{Order}
use Rattle.tables.specs.declared.rows.OrderLine.{OrderLine}
use Rattle.tables.specs.declared.delivery.DeliveryInput.{DeliveryInput}
use Rattle.tables.specs.declared.records.RecordKey.{RecordKey}
use Rattle.tables.specs.declared.records.RecordKey.TheVariants as key
use Rattle.tables.proofs.Orders.{exact_line}
use Rattle.tables_laws.proofs.Touched.{self, both}
use Rattle.tables_laws.proofs.Updates.{get-map_rows}
use Rattle.tables_laws.proofs.NumbersLeft.{IsGapless, left_of}
use Rattle.tables_laws.proofs.OrderAmount.{order_named}
use Rattle.tables_laws.proofs.RisingNumbers.{numbers_rise}
use Rattle.readset.specs.Changes.{Changes, Says, Apart}
use Rattle.delivery.specs.Steps.{next_home, next_key, is_early_line, with_dates, with_oldest, taken_by, is_taken_by, after_districts}
use Rattle.delivery.proofs.Taking.{taken_other, taken_before, taken_now, is_taken_before, is_taken_now}
use Rattle.delivery.proofs.Rows.{customer_home, order_home, customer_row, new_order_row, order_row, line_row_after, oldest_left, same_customer, same_new_order}
use Rattle.delivery.proofs.Rows.{same_order, same_line, same_oldest}
use Rattle.delivery.proofs.NextOldest.{next_least}
use Rattle.delivery.proofs.LastKept.{last_kept}

-- a district is the next one, or another
either_home : (x : DeliveryInput) (n : ℕ) (k : DistrictKey) → (b : Bool) → ((k.warehouse == x.warehouse) && (k.district == n + 1)) ≡ b → (P : Type 0)
    → (k ≡ next_home x n → P) → (k ≢ next_home x n → P) → P
either_home x n k true e P here other = let p = both _ _ e in
    here (λ i. record { warehouse = eqb-true k.warehouse x.warehouse p.0 i; district = eqb-true k.district (n + 1) p.1 i })
either_home x n k false e P here other =
    other (λ same. true≢false
    (sym ((λ i. self x.warehouse i && self (n + 1) i)) ∙ ap (λ (h : DistrictKey). (h.warehouse == x.warehouse) && (h.district == n + 1)) (sym same) ∙ e))

or_false : (b : Bool) → (b || false) ≡ b
or_false true = refl
or_false false = refl

-- no order waits: nothing changes
module _ (t : Database) (x : DeliveryInput) (n : ℕ) (waits : waiting t (next_home x n) ≡ None) where
  taken_same : (k : DistrictKey) → taken_by t x (n + 1) k ≡ taken_by t x n k
  taken_same k = either_home x n k _ refl (taken_by t x (n + 1) k ≡ taken_by t x n k)
      (λ here. ap (taken_by t x (n + 1)) here ∙ taken_now t x n ∙ waits ∙ sym (taken_before t x n) ∙ ap (taken_by t x n) (sym here))
      (taken_other t x n k)

  pub none_changed : (j : RecordKey) → row_at (after_districts t x (n + 1)) j ≡ row_at (after_districts t x n) j
  none_changed (key.Warehouse w) = refl
  none_changed (key.District k) = refl
  none_changed (key.Customer k) = same_customer t x (n + 1) n k (taken_same (customer_home k))
  none_changed (key.NewOrder k) = same_new_order t x (n + 1) n k (taken_same (order_home k))
  none_changed (key.Order k) = same_order t x (n + 1) n k (taken_same (order_home k))
  none_changed (key.OrderLine k) = same_line t x (n + 1) n k (taken_same (order_home (order_of k)))
  none_changed (key.Stock k) = refl
  none_changed (key.Oldest k) = ap (λ o. Some (number_words o)) (same_oldest t x (n + 1) n k (taken_same k))
  none_changed (key.Last k) = ap (λ o. Some (number_words o)) (last_kept t x (n + 1) k ∙ sym (last_kept t x n k))
  none_changed (key.CustomerData k) = refl

-- an order waits, and is taken
module _ (t : Database) (x : DeliveryInput) (n o : ℕ) (waits : waiting t (next_home x n) ≡ Some o) where
  abbrev k : OrderKey
  k = next_key x n o

  abbrev buyer_of : Order → CustomerKey
  buyer_of r = record { warehouse = x.warehouse; district = n + 1; customer = r.customer }

  -- what is changed at last: the order's rows, where it was r, and its customer's, which was s
  abbrev pub ending : Order → Customer → Changes
  ending r s = (key.NewOrder k, None)
      ∷ (key.Order k, Some (order_words (carried x r)))
      ∷ (key.Customer (buyer_of r), Some (customer_words (credited t k s))) ∷ []

  now_taken : (m : ℕ) → is_taken_by t x (n + 1) (next_key x n m) ≡ (o == m)
  now_taken m = is_taken_now t x n (Some o) m waits

  -- OLDEST becomes the next number, where the district's numbers have no gaps
  pub oldest_next : IsGapless (next_order t (next_home x n)) (numbers_in (next_home x n) t.new_orders)
      → row_at (after_districts t x (n + 1)) (key.Oldest (next_home x n)) ≡ Some (number_words (o + 1))
  oldest_next gapless =
      ap (λ a. Some (number_words a)) (oldest_left t x (n + 1) (next_home x n)
      ∙ ap (λ w. unwrap_or (Rattle.tables.specs.OrderNumbers.least (left_of w (numbers_in (next_home x n) t.new_orders)))
      (next_order t (next_home x n))) (taken_now t x n ∙ waits)
      ∙ next_least (next_order t (next_home x n)) o (numbers_in (next_home x n) t.new_orders) (numbers_rise (next_home x n) t.new_orders) gapless waits)

  module _ (r : Order) (s : Customer) (found : get t.orders k ≡ Some r) (buyer : get t.customers (buyer_of r) ≡ Some s) (base : Database) where
    pub ended : Says (with_oldest base (after_districts t x (n + 1))) (ending r s)
    ended = (
      ap (option_map new_order_words) (new_order_row t x (n + 1) k ∙ ap (λ b. cond (not b) (get t.new_orders k) None) (now_taken o ∙ self o)),
      (
        ap (option_map order_words) (order_row t x (n + 1) k ∙ (λ i. option_map (λ q. cond ((now_taken o ∙ self o) i) (carried x q) q) (found i))),
        (
          ap (option_map customer_words) (customer_row t x (n + 1) (buyer_of r)
              ∙ (λ i. option_map (after_taken t (buyer_of r) ((taken_now t x n ∙ waits) i)) (buyer i))
              ∙ ap (λ b. Some (cond b (credited t k s) s)) (ap (λ (w : Option Order). option_map_or (λ order. order.customer == r.customer) w false) found
              ∙ self r.customer)),
          tt,
        ),
      ),
    )

    -- and nothing else, after its lines: each has its date, since their numbers are at most their count
    module _ (wf : IsWellFormed t) where
      same_test : (j : LineKey) (l : OrderLine) → get t.lines j ≡ Some l
          → is_taken_by t x (n + 1) (order_of j) ≡ (is_taken_by t x n (order_of j) || is_early_line k r.line_count j)
      same_test j l is = either_home x n (order_home (order_of j)) _ refl
          (is_taken_by t x (n + 1) (order_of j) ≡ (is_taken_by t x n (order_of j) || is_early_line k r.line_count j)) here other
        where
          here : order_home (order_of j) ≡ next_home x n → is_taken_by t x (n + 1) (order_of j) ≡ (is_taken_by t x n (order_of j) || is_early_line k r.line_count j)
          here home =
              let at : order_of j ≡ next_key x n j.order = λ i. record { warehouse = (home i).warehouse; district = (home i).district; order = j.order } in
              let before : is_taken_by t x n (order_of j) ≡ false = ap (is_taken_by t x n) at ∙ is_taken_before t x n j.order in
              let after : is_taken_by t x (n + 1) (order_of j) ≡ (o == j.order) = ap (is_taken_by t x (n + 1)) at ∙ now_taken j.order in
              let test : is_order x.warehouse (n + 1) o (order_of j) ≡ (o == j.order) = ap (is_order x.warehouse (n + 1) o) at
              ∙ (λ i. (self x.warehouse i && self (n + 1) i) && (o == j.order)) in
              elim (o == j.order) as (λ b. (o == j.order) ≡ b
              → is_taken_by t x (n + 1) (order_of j) ≡ (is_taken_by t x n (order_of j) || is_early_line k r.line_count j)) [
                | true ↦ λ e.
                    let order = wf.line_orders j l is in
                    let named : order_of j ≡ k = at ∙ ap (next_key x n) (sym (eqb-true o j.order e)) in
                    let count : j.line ≤ r.line_count =
                    subst (λ (q : Order). j.line ≤ q.line_count) (same_Some _ _ (sym order.1 ∙ ap (get t.orders) named ∙ found)) order.2 in
                    let within : nat_le j.line r.line_count ≡ true = grind (arith, nat_tests, count) in
                    after ∙ e ∙ sym (λ i. before i || ((test ∙ e) i && within i))
                | false ↦ λ e. after ∙ e ∙ sym (λ i. before i || ((test ∙ e) i && nat_le j.line r.line_count))
              ] refl

          other : order_home (order_of j) ≢ next_home x n → is_taken_by t x (n + 1) (order_of j) ≡ (is_taken_by t x n (order_of j) || is_early_line k r.line_count j)
          other away =
              let test : is_order x.warehouse (n + 1) o (order_of j) ≡ false = elim (is_order x.warehouse (n + 1) o (order_of j)) as
              (λ b. is_order x.warehouse (n + 1) o (order_of j) ≡ b → b ≡ false) [
                | true ↦ λ e. absurd (away (ap order_home (sym (order_named x.warehouse (n + 1) o (order_of j) e))))
                | false ↦ λ e. refl
              ] refl in
              ap (λ (w : Option ℕ). option_map_or (λ q. q == j.order) w false) (taken_other t x n (order_home (order_of j)) away)
              ∙ sym (or_false (is_taken_by t x n (order_of j))) ∙ sym (λ i. is_taken_by t x n (order_of j) || (test i && nat_le j.line r.line_count))

      lines_same : (j : LineKey) → row_at (after_districts t x (n + 1)) (key.OrderLine j) ≡ row_at (with_dates t x n k r.line_count) (key.OrderLine j)
      lines_same j =
          ap (option_map line_words) (line_row_after t x (n + 1) j ∙ go (get t.lines j) refl
          ∙ sym (get-map_rows exact_line (λ q l. cond (is_taken_by t x n (order_of q) || is_early_line k r.line_count q) (dated x l) l) t.lines j))
        where
          go : (w : Option OrderLine) → get t.lines j ≡ w → option_map (λ l. cond (is_taken_by t x (n + 1) (order_of j)) (dated x l) l) w
              ≡ option_map (λ l. cond (is_taken_by t x n (order_of j) || is_early_line k r.line_count j) (dated x l) l) w
          go None is = refl
          go (Some l) is = ap (λ b. Some (cond b (dated x l) l)) (same_test j l is)

      -- a customer of the district that isn't the order's
      other_customer : (c : CustomerKey) → c ≢ buyer_of r → customer_home c ≡ next_home x n → row_at (after_districts t x (n + 1)) (key.Customer c) ≡ row_at
          (after_districts t x n) (key.Customer c)
      other_customer c apart here = ap (option_map customer_words) (
          customer_row t x (n + 1) c ∙ ap (λ w. option_map (after_taken t c w) (get t.customers c)) (ap (taken_by t x (n + 1)) here ∙ taken_now t x n ∙ waits)
          ∙ kept (get t.customers c)
          ∙ sym (customer_row t x n c ∙ ap (λ w. option_map (after_taken t c w) (get t.customers c)) (ap (taken_by t x n) here ∙ taken_before t x n)))
        where
          not_his : is_order_of t (record { warehouse = c.warehouse; district = c.district; order = o }) c.customer ≡ false
          not_his =
              ap (λ (w : Option Order). option_map_or (λ order. order.customer == c.customer) w false)
              ((λ i. get t.orders (record { warehouse = (here i).warehouse; district = (here i).district; order = o })) ∙ found)
              ∙ elim (r.customer == c.customer) as (λ b. (r.customer == c.customer) ≡ b → b ≡ false) [
                | true ↦ λ e. absurd (apart
                    (λ i. record { warehouse = (here i).warehouse; district = (here i).district; customer = sym (eqb-true r.customer c.customer e) i }))
                | false ↦ λ e. refl
              ] refl

          kept : (w : Option Customer) → option_map (after_taken t c (Some o)) w ≡ option_map (after_taken t c None) w
          kept None = refl
          kept (Some q) = ap (λ b. Some (cond b (credited t (record { warehouse = c.warehouse; district = c.district; order = o }) q) q)) not_his

      -- an order of the district that isn't the one taken
      not_taken : (j : OrderKey) → j ≢ k → order_home j ≡ next_home x n → is_taken_by t x (n + 1) j ≡ is_taken_by t x n j
      not_taken j apart here =
          let at : j ≡ next_key x n j.order = λ i. record { warehouse = (here i).warehouse; district = (here i).district; order = j.order } in
          ap (is_taken_by t x (n + 1)) at ∙ now_taken j.order
          ∙ elim (o == j.order) as (λ b. (o == j.order) ≡ b → b ≡ false) [
            | true ↦ λ e. absurd (apart (at ∙ ap (next_key x n) (sym (eqb-true o j.order e))))
            | false ↦ λ e. refl
          ] refl
          ∙ sym (ap (is_taken_by t x n) at ∙ is_taken_before t x n j.order)

      pub ended_others : (j : RecordKey) → Apart j (ending r s)
          → with_oldest base (after_districts t x (n + 1)) j ≡ with_oldest base (with_dates t x n k r.line_count) j
      ended_others (key.Warehouse w) apart = refl
      ended_others (key.District h) apart = refl
      ended_others (key.Customer c) apart =
          either_home x n (customer_home c) _ refl (row_at (after_districts t x (n + 1)) (key.Customer c) ≡ row_at (after_districts t x n) (key.Customer c))
          (other_customer c (λ same. apart.1.1.0 (ap key.Customer same)))
          (λ away. same_customer t x (n + 1) n c (taken_other t x n (customer_home c) away))
      ended_others (key.NewOrder j) apart =
          either_home x n (order_home j) _ refl (row_at (after_districts t x (n + 1)) (key.NewOrder j) ≡ row_at (after_districts t x n) (key.NewOrder j))
          (λ here. ap (option_map new_order_words)
          (new_order_row t x (n + 1) j ∙ ap (λ b. cond (not b) (get t.new_orders j) None) (not_taken j (λ same. apart.0 (ap key.NewOrder same)) here)
          ∙ sym (new_order_row t x n j)))
          (λ away. same_new_order t x (n + 1) n j (taken_other t x n (order_home j) away))
      ended_others (key.Order j) apart =
          either_home x n (order_home j) _ refl (row_at (after_districts t x (n + 1)) (key.Order j) ≡ row_at (after_districts t x n) (key.Order j))
          (λ here. ap (option_map order_words)
          (order_row t x (n + 1) j ∙ ap (λ b. option_map (λ q. cond b (carried x q) q) (get t.orders j))
          (not_taken j (λ same. apart.1.0 (ap key.Order same)) here) ∙ sym (order_row t x n j)))
          (λ away. same_order t x (n + 1) n j (taken_other t x n (order_home j) away))
      ended_others (key.OrderLine j) apart = lines_same j
      ended_others (key.Stock h) apart = refl
      ended_others (key.Oldest h) apart = refl
      ended_others (key.Last c) apart = ap (λ a. Some (number_words a)) (last_kept t x (n + 1) c ∙ sym (last_kept t x n c))
      ended_others (key.CustomerData c) apart = refl

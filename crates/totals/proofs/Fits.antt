-- The sums of well-formed, consistent tables fit the words that hold them.
use Rattle.std.proofs.Common.{◌≡◌, ℕ, suc, ◌+◌, ◌*◌, ◌^◌, ◌<◌, ◌≤◌, ℤ, pos, ◌+ℤ◌, ◌-ℤ◌, Bool, true, false, cond, T, List, [], ◌∷◌, map, filter, length, Option}
use Rattle.std.proofs.Common.{Some, None, IsSome, is_some, refl, sym, ap, ◌∙◌, subst, arith, true≢false}
use Rattle.std.proofs.lemmas.Int.{ints, fits_signed_from_abs}
use Rattle.std.specs.Int.{w8, w64}
use Rattle.std.specs.Int.RustNames.{FitsSigned}
use Rattle.std.specs.Option.{option_map_or}
use Rattle.std.specs.FinMap.{FinMap, entries, entries_sorted, get, get-entries, find, is_sorted}
use Rattle.std.specs.declared.cmp.Ordering.{Ordering}
use Rattle.tables.specs.Sizes.{Sizes, IsScale}
use Rattle.tables.specs.Keys.{order_cmp, is_district, is_order, order_of, IsOrderKey, IsCustomerKey}
use Rattle.tables.specs.Maps.{sum_entries, total, count, column, RowsAt, EachRow}
use Rattle.tables.specs.OrderNumbers.{greatest, numbers_in}
use Rattle.tables.specs.Database.{Database}
use Rattle.tables.specs.Conditions.{IsConsistent, line_counts}
use Rattle.tables.specs.WellFormed.{IsWellFormed, IsMoney}
use Rattle.tables.specs.declared.keys.DistrictKey.{DistrictKey}
use Rattle.tables.specs.declared.keys.CustomerKey.{CustomerKey}
use Rattle.tables.specs.declared.keys.OrderKey.{OrderKey}
use Rattle.tables.specs.declared.keys.LineKey.{LineKey}
use Rattle.tables.specs.declared.rows.Order.{Order}
use Rattle.tables.specs.declared.rows.OrderLine.{OrderLine}
use Rattle.tables.proofs.Orders.{exact_order, exact_line}
use Rattle.tables.proofs.KeyTests.{is_order-key}
use Rattle.tables.proofs.Entries.{first, second, tied, found_first, found_after}
use Rattle.tables.proofs.Totals.{total-zero}
use Rattle.tables.proofs.OrderNumbers.{greatest-within}
use Rattle.tables_laws.proofs.Rows.{there}
use Rattle.tables_laws.proofs.RisingNumbers.{Rises, numbers_rise}
use Rattle.tables_laws.proofs.NumbersLeft.{no_more}
use Rattle.totals.specs.Small.{SumsFit}

money_fits : (z : ℤ) → IsMoney z → FitsSigned w64 z
money_fits z h = fits_signed_from_abs w64 z (omega (arith, ints, h.0, h.1))

both_fit : (a b : ℤ) → IsMoney a → IsMoney b → FitsSigned w64 (a +ℤ b)
both_fit a b h k = fits_signed_from_abs w64 (a +ℤ b) (omega (arith, ints, h.0, h.1, k.0, k.1))

count_fits : (n : ℕ) → n < 2 ^ 40 → FitsSigned w64 (pos n)
count_fits n h = fits_signed_from_abs w64 (pos n) (omega arith)

few_fit : (n : ℕ) → n ≤ 15 → FitsSigned w8 (pos n)
few_fit n h = fits_signed_from_abs w8 (pos n) (omega arith)

column_money : {K X : Type 0} {R : K → K → Ordering} (IsKey : K → Type 0) (m : FinMap R X) → RowsAt IsKey m → (f : X → ℤ) → EachRow (λ k r. IsMoney (f r)) m
    → (k : K) → IsKey k → IsMoney (column f m k)
column_money IsKey m at f each k is =
    let r = there IsKey m at k is in
    subst IsMoney (sym (ap (λ w. option_map_or f w (pos 0)) r.1)) (each k r.0 r.1)

-- ---- how many numbers a district has
numbers_few : (high : ℕ) (ns : List ℕ) → Rises ns → greatest ns ≤ high → length ns ≤ high + 1
numbers_few high [] rise h = omega arith
numbers_few high (n ∷ ns) rise h = omega (arith, no_more n ns rise, h)

numbers_in_few : {X : Type 0} (s : Sizes) (k : DistrictKey) (m : FinMap order_cmp X) → ((j : OrderKey) → IsSome (get m j) → IsOrderKey s j)
    → length (numbers_in k m) ≤ s.orders + 1
numbers_in_few {X} s k m within = numbers_few s.orders (numbers_in k m) (numbers_rise k m)
    (greatest-within (λ (e : OrderKey × X). is_district e.0.warehouse e.0.district k) s.orders m (λ j r found _. (within j (ap is_some found)).2.1))

-- ---- the sum of O_OL_CNT
module _ (k : DistrictKey) where
  abbrev numbers : List (OrderKey × Order) → List ℕ
  numbers es = map (λ (e : OrderKey × Order). e.0.order) (filter (λ (e : OrderKey × Order). is_district e.0.warehouse e.0.district k) es)

  abbrev counts : List (OrderKey × Order) → ℤ
  counts es = sum_entries (λ j order. cond (is_district j.warehouse j.district k) (pos order.line_count) (pos 0)) es

  counts_few : (es : List (OrderKey × Order)) → T (is_sorted order_cmp es)
      → ((j : OrderKey) (r : Order) → find order_cmp j es ≡ Some r → r.line_count ≤ 15)
      → (n : ℕ) × (counts es ≡ pos n) × (n ≤ 15 * length (numbers es))
  counts_few [] sorted few = (0, refl, omega arith)
  counts_few (e ∷ es) sorted few =
      let rest = counts_few es (second _ _ sorted) (λ j r found. few j r (found_after exact_order j r e es (first _ _ sorted) found)) in
      let here = few e.0 e.1 (found_first exact_order e es) in
      elim (is_district e.0.warehouse e.0.district k) as
      (λ b. (n : ℕ) × (cond b (pos e.1.line_count) (pos 0) +ℤ counts es ≡ pos n)
      × (n ≤ 15 * length (map (λ (e : OrderKey × Order). e.0.order) (cond b (e ∷ filter (λ (e : OrderKey × Order). is_district e.0.warehouse e.0.district k) es)
      (filter (λ (e : OrderKey × Order). is_district e.0.warehouse e.0.district k) es))))) [
        | true ↦ more e.1.line_count (counts es) (numbers es) here rest
        | false ↦ (rest.0, none_more (counts es) rest.0 rest.1, rest.2)
      ]
    where
      none_more : (z : ℤ) (n : ℕ) → z ≡ pos n → pos 0 +ℤ z ≡ pos n
      none_more z n e = omega (arith, ints)

      more : (c : ℕ) (z : ℤ) (ns : List ℕ) → c ≤ 15 → (n : ℕ) × (z ≡ pos n) × (n ≤ 15 * length ns)
          → (n : ℕ) × (pos c +ℤ z ≡ pos n) × (n ≤ 15 * suc (length ns))
      more c z ns h rest = (c + rest.0, ap (λ a. pos c +ℤ a) rest.1, omega (arith, h, rest.2))

module _ (t : Database) (scale : IsScale t.scale) (wf : IsWellFormed t) (con : IsConsistent t) where
  small_counts : (k : DistrictKey) → FitsSigned w64 (line_counts t k)
  unfolding total
  small_counts k =
      let few = counts_few k (entries t.orders) (entries_sorted t.orders)
      (λ j r found. (wf.order_rows j r (get-entries t.orders j ∙ found)).line_count.1) in
      let numbers : length (numbers_in k t.orders) ≤ t.scale.orders + 1 = numbers_in_few t.scale k t.orders wf.orders in
      subst (FitsSigned w64) (sym few.1) (count_fits few.0 (omega (arith, few.2, numbers, scale.orders.1)))

  -- an order that isn't there has no lines
  order_lines_few : (k : OrderKey) (w : Option Order) → get t.orders k ≡ w
      → FitsSigned w8 (count (λ j line. is_order j.warehouse j.district j.order k) t.lines)
  order_lines_few k (Some order) found =
      subst (FitsSigned w8) (con.condition_6 k order found) (few_fit order.line_count (wf.order_rows k order found).line_count.1)
  order_lines_few k None none =
      subst (FitsSigned w8) (sym (total-zero exact_line _ t.lines (λ j line found. other j line found (is_order j.warehouse j.district j.order k) refl)))
      (few_fit 0 (omega arith))
    where
      other : (j : LineKey) (line : OrderLine) → get t.lines j ≡ Some line → (b : Bool) → is_order j.warehouse j.district j.order k ≡ b
          → cond b (pos 1) (pos 0) ≡ pos 0
      other j line found false is = refl
      other j line found true is =
          let order = wf.line_orders j line found in
          absurd (true≢false (ap is_some (sym order.1
          ∙ ap (get t.orders) (exact_order.same (order_of j) k (tied _ (sym (is_order-key j.warehouse j.district j.order k) ∙ is)))
          ∙ none)))

  pub sums_fit : SumsFit t.scale t
  sums_fit = record {
    year_to_date = λ w is.
        subst (FitsSigned w64) (con.condition_1 w is)
        (money_fits _ (column_money _ t.warehouses wf.warehouses (λ r. r.year_to_date) wf.warehouse_rows w is));
    paid_at_warehouse = λ w is.
        subst (FitsSigned w64) (con.condition_8 w is)
        (money_fits _ (column_money _ t.warehouses wf.warehouses (λ r. r.year_to_date) wf.warehouse_rows w is));
    paid_at_district = λ k is.
        subst (FitsSigned w64) (con.condition_9 k is)
        (money_fits _ (column_money _ t.districts wf.districts (λ r. r.year_to_date) (λ j r found. (wf.district_rows j r found).year_to_date) k is));
    paid_by_customer = λ k is.
        subst (FitsSigned w64) (paid_is _ _ _ _ (con.condition_10 k is) (con.condition_12 k is)) (money_fits _ (paid k is));
    delivered = λ k is.
        subst (FitsSigned w64) (con.condition_12 k is) (both_fit _ _ (balance k is) (paid k is));
    line_counts = λ k is. small_counts k;
    district_lines = λ k is. subst (FitsSigned w64) (con.condition_4 k is) (small_counts k);
    order_lines = λ k is. order_lines_few k (get t.orders k) refl;
    waiting = λ k is. count_fits _ (omega (arith, numbers_in_few t.scale k t.new_orders wf.new_orders, scale.orders.1));
  }
    where
      balance : (k : CustomerKey) → IsCustomerKey t.scale k → IsMoney (column (λ r. r.balance) t.customers k)
      balance k is = column_money _ t.customers wf.customers (λ r. r.balance) (λ j r found. (wf.customer_rows j r found).balance) k is

      paid : (k : CustomerKey) → IsCustomerKey t.scale k → IsMoney (column (λ r. r.paid) t.customers k)
      paid k is = column_money _ t.customers wf.customers (λ r. r.paid) (λ j r found. (wf.customer_rows j r found).paid) k is

      paid_is : (b d p c : ℤ) → b ≡ d -ℤ p → b +ℤ c ≡ d → c ≡ p
      paid_is b d p c e g = omega (arith, ints)

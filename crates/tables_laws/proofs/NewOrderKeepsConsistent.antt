-- A New-Order keeps the consistency conditions.
use Rattle.std.proofs.Common.{◌≡◌, ℕ, ◌+◌, max, min, ℤ, pos, ◌+ℤ◌, ◌-ℤ◌, Bool, true, false, cond, ◌==◌, ◌&&◌, Option, Some, None, IsSome, is_some}
use Rattle.std.proofs.Common.{is_none}
use Rattle.std.proofs.Common.{List, [], ◌∷◌, length, true≢false, refl, sym, ap, ◌∙◌, subst, arith}
use Rattle.std.proofs.lemmas.Int.{ints}
use Rattle.std.proofs.lemmas.Option.{same_Some}
use Rattle.std.specs.Ordering.{eq_by_cmp}
use Rattle.std.specs.Cmp.{eq_by_cmp_equiv}
use Rattle.std.specs.FinMap.{get}
use Rattle.std.specs.Option.{ForSome, option_map, option_map_or}
use Rattle.tables.specs.Keys.{order_cmp, is_district, is_order, order_of, IsWarehouseKey, IsDistrictKey, IsCustomerKey}
use Rattle.tables.specs.Maps.{count}
use Rattle.tables.specs.OrderNumbers.{least, greatest, numbers_in, next_order}
use Rattle.tables.specs.Database.{Database}
use Rattle.tables.specs.NewOrder.{IsNewOrder, home, new_key, numbered_district, order_row, after_new_order}
use Rattle.tables.specs.Conditions.{IsConsistent, Condition1At, Condition2At, Condition3At, Condition4At, Condition5At, Condition6At, Condition7At}
use Rattle.tables.specs.Conditions.{Condition9At, Condition10At, Condition12At, line_counts, is_line_of, delivered_amount, paid_by_customer}
use Rattle.tables.specs.WellFormed.{IsWellFormed}
use Rattle.tables.specs.declared.keys.DistrictKey.{DistrictKey}
use Rattle.tables.specs.declared.keys.CustomerKey.{CustomerKey}
use Rattle.tables.specs.declared.keys.OrderKey.{OrderKey}
use Rattle.tables.specs.declared.keys.LineKey.{LineKey}
use Rattle.tables.specs.declared.rows.District.{District}
use Rattle.tables.specs.declared.rows.Order.{Order}
use Rattle.tables.specs.declared.new_order.NewOrderInput.{NewOrderInput}
use Rattle.tables.proofs.Orders.{exact_district, exact_order, exact_line}
use Rattle.tables.proofs.KeyTests.{is_district-key, is_order-key}
use Rattle.tables.proofs.Entries.{tied}
use Rattle.tables.proofs.Totals.{total-alike, total-zero}
use Rattle.tables_laws.proofs.Updates.{get-map_rows, total-kept, kept-update_where}
use Rattle.tables_laws.proofs.Rows.{each_inserted, get-inserted, get-insert_other}
use Rattle.tables_laws.proofs.Inserts.{total-insert}
use Rattle.tables_laws.proofs.OrderNumbers.{with_greater, with_lesser, with_one, greatest-insert, least-insert, length-insert}
use Rattle.tables_laws.proofs.NewKey.{no_order, no_new_order, other_order, of_other, no_line, order_stays}
use Rattle.tables_laws.proofs.NewLines.{each-with_lines, total-with_lines}

-- whether the carrier of an order is null, or there is no order
abbrev carrier_null : Option Order → Bool
carrier_null order = option_map_or (λ o. is_none o.carrier) order true

-- the order that comes next where an order was numbered
numbered : (b : Bool) (w : Option District) → IsSome w → option_map_or (λ r. r.next_order) (option_map (λ r. cond b (numbered_district r) r) w) 0 ≡ cond
    b
    (option_map_or (λ r. r.next_order) w 0 + 1) (option_map_or (λ r. r.next_order) w 0)
numbered b None some = absurd (true≢false (sym some))
numbered true (Some r) some = refl
numbered false (Some r) some = refl

-- conditions 2 and 3 of the numbers ns of a district's NEW-ORDER rows, of which the next is n, with that one more
greatest_next : (ns : List ℕ) (n : ℕ) → ForSome (least ns) (λ _. greatest ns + 1 ≡ n) → max n (greatest ns) ≡ n
greatest_next [] n was = omega arith
greatest_next (a ∷ ns) n was = let last : greatest (a ∷ ns) + 1 ≡ n = was _ refl in omega arith

without_gaps : (ns : List ℕ) (n : ℕ) → ForSome (least ns) (λ _. greatest ns + 1 ≡ n) → ForSome (least ns) (λ first. greatest ns + 1 ≡ first + length ns)
    → max n (greatest ns) + 1 ≡ option_map_or (min n) (least ns) n + (length ns + 1)
without_gaps [] n next was = omega arith
without_gaps (a ∷ ns) n next was =
    let least_is : ℕ = option_map_or (min a) (least ns) a in
    let last : greatest (a ∷ ns) + 1 ≡ n = next _ refl in
    let gapless : greatest (a ∷ ns) + 1 ≡ least_is + length (a ∷ ns) = was _ refl in
    omega arith

module _ (t : Database) (x : NewOrderInput) (ok : IsNewOrder t.scale x) (wf : IsWellFormed t) (con : IsConsistent t) where
  last : Condition2At t (home x)
  last = con.condition_2 (home x) (ok.warehouse, ok.district)

  abbrev is_home : DistrictKey → Bool
  is_home k = is_district x.warehouse x.district k

  at_home : (k : DistrictKey) → is_home k ≡ true → home x ≡ k
  at_home k e = exact_district.same (home x) k (tied _ (sym (is_district-key x.warehouse x.district k) ∙ e))

  next_after : (k : DistrictKey) → IsDistrictKey t.scale k → next_order (after_new_order t x) k ≡ cond (is_home k) (next_order t k + 1) (next_order t k)
  next_after k is =
      ap (λ (w : Option District). option_map_or (λ r. r.next_order) w 0)
      (get-map_rows exact_district (λ j r. cond (is_home j) (numbered_district r) r) t.districts k)
      ∙ numbered (is_home k) (get t.districts k) ((wf.districts k).1 is)

  condition_1 : (w : ℕ) → IsWarehouseKey t.scale w → Condition1At (after_new_order t x) w
  condition_1 w is = con.condition_1 w is
      ∙ sym (total-kept exact_district (λ k r. cond (k.warehouse == w) r.year_to_date (pos 0)) (λ j r. cond (is_home j) (numbered_district r) r)
      t.districts
      (λ k r. elim (is_home k) as
      (λ b. cond (k.warehouse == w) (cond b (numbered_district r) r).year_to_date (pos 0) ≡ cond (k.warehouse == w) r.year_to_date (pos 0))
      [ true ↦ refl | false ↦ refl ]))

  -- the numbers of a district's orders, or of its NEW-ORDER rows, with the new one
  abbrev in_district : {X : Type 0} → DistrictKey → OrderKey × X → Bool
  in_district {X} k e = is_district e.0.warehouse e.0.district k

  same_next : (k : DistrictKey) → is_home k ≡ true → next_order t (home x) ≡ next_order t k
  same_next k e = ap (next_order t) (at_home k e)

  condition_2 : (k : DistrictKey) → IsDistrictKey t.scale k → Condition2At (after_new_order t x) k
  condition_2 k is =
      let was = con.condition_2 k is in
      let n : ℕ = next_order t (home x) in
      let orders : List ℕ = numbers_in k t.orders in
      let waiting : List ℕ = numbers_in k t.new_orders in (
        ap (λ g. g + 1) (greatest-insert (in_district k) t.orders (new_key t x) (order_row x) (no_order t x wf last))
            ∙ elim (is_home k) as (λ b. is_home k ≡ b → cond b (max n (greatest orders)) (greatest orders) + 1 ≡ cond b (next_order t k + 1)
            (next_order t k)) [
              | true ↦ λ e. let same : n ≡ next_order t k = same_next k e in let below : greatest orders + 1 ≡ next_order t k = was.0 in omega arith
              | false ↦ λ e. was.0
            ] refl
            ∙ sym (next_after k is),
        λ first some.
            ap (λ g. g + 1) (greatest-insert (in_district k) t.new_orders (new_key t x) (record {}) (no_new_order t x wf last))
            ∙ elim (is_home k) as (λ b. is_home k ≡ b → cond b (max n (greatest waiting)) (greatest waiting) + 1 ≡ cond b (next_order t k + 1)
            (next_order t k)) [
              | true ↦ λ e. ap (λ a. a + 1) (ap (λ a. max a (greatest waiting)) (same_next k e) ∙ greatest_next waiting (next_order t k) was.1)
              | false ↦ λ e. was.1 first
                  (sym (ap (λ b. with_lesser b n (least waiting)) e)
                  ∙ sym (least-insert (in_district k) t.new_orders (new_key t x) (record {}) (no_new_order t x wf last)) ∙ some)
            ] refl
            ∙ sym (next_after k is),
      )

  condition_3 : (k : DistrictKey) → IsDistrictKey t.scale k → Condition3At (after_new_order t x) k
  condition_3 k is first some =
      let n : ℕ = next_order t (home x) in
      let waiting : List ℕ = numbers_in k t.new_orders in
      let g = greatest-insert (in_district k) t.new_orders (new_key t x) (record {}) (no_new_order t x wf last) in
      let l : with_lesser (is_home k) n (least waiting) ≡ Some first =
      sym (least-insert (in_district k) t.new_orders (new_key t x) (record {}) (no_new_order t x wf last)) ∙ some in
      let c = length-insert (in_district k) t.new_orders (new_key t x) (record {}) (no_new_order t x wf last) in
      ap (λ a. a + 1) g
      ∙ elim (is_home k) as (λ b. is_home k ≡ b → with_lesser b n (least waiting) ≡ Some first
      → with_greater b n (greatest waiting) + 1 ≡ first + with_one b (length waiting)) [
        | true ↦ λ e least_is.
            subst (λ a. max a (greatest waiting) + 1 ≡ option_map_or (min a) (least waiting) a + (length waiting + 1)) (sym (same_next k e))
            (without_gaps waiting (next_order t k) ((con.condition_2 k is).1) (con.condition_3 k is))
            ∙ ap (λ a. a + (length waiting + 1)) (same_Some _ _ least_is)
        | false ↦ λ e least_is. con.condition_3 k is first least_is
      ] refl l
      ∙ ap (λ a. first + a) (sym c)

  condition_4 : (k : DistrictKey) → IsDistrictKey t.scale k → Condition4At (after_new_order t x) k
  condition_4 k is =
      total-insert exact_order (λ j order. cond (is_district j.warehouse j.district k) (pos order.line_count) (pos 0)) t.orders (new_key t x)
      (order_row x)
      (no_order t x wf last)
      ∙ turned (cond (is_home k) (pos (length x.lines)) (pos 0)) (line_counts t k) ∙ ap (λ a. a +ℤ cond (is_home k) (pos (length x.lines)) (pos 0))
      (con.condition_4 k is)
      ∙ sym (total-with_lines t (new_key t x) (λ j line. cond (is_district j.warehouse j.district k) (pos 1) (pos 0)) (is_home k) 1 x.lines t.lines
      (λ _ _. refl) (λ i _. no_line t x wf last i))
    where
      turned : (a b : ℤ) → a +ℤ b ≡ b +ℤ a
      turned a b = omega (arith, ints)

  condition_5 : (k : OrderKey) → Condition5At (after_new_order t x) k
  condition_5 = each_inserted exact_order (λ k order. is_none order.carrier ≡ is_some (get (after_new_order t x).new_orders k)) t.orders (new_key t x)
      (order_row x)
      (λ k order found. con.condition_5 k order found
      ∙ ap is_some (sym (get-insert_other exact_order t.new_orders (new_key t x) (record {}) k (other_order t x wf last k order found))))
      (ap is_some (sym (get-inserted exact_order t.new_orders (new_key t x) (record {}))))

  -- how many lines an order has
  lines_after : (k : OrderKey) → count (λ j line. is_order j.warehouse j.district j.order k) (after_new_order t x).lines
      ≡ count (λ j line. is_order j.warehouse j.district j.order k) t.lines +ℤ cond (eq_by_cmp order_cmp (new_key t x) k) (pos (length x.lines)) (pos 0)
  lines_after k =
      total-with_lines t (new_key t x) (λ j line. cond (is_order j.warehouse j.district j.order k) (pos 1) (pos 0))
      (eq_by_cmp order_cmp (new_key t x) k) 1
      x.lines t.lines
      (λ _ _. ap (λ b. cond b (pos 1) (pos 0)) (is_order-key x.warehouse x.district (next_order t (home x)) k)) (λ i _. no_line t x wf last i)

  condition_6 : (k : OrderKey) → Condition6At (after_new_order t x) k
  condition_6 = each_inserted exact_order
      (λ k order. pos order.line_count ≡ count (λ j line. is_order j.warehouse j.district j.order k) (after_new_order t x).lines) t.orders (new_key t x)
      (order_row x)
      (λ k order found. con.condition_6 k order found ∙ sym (nothing _)
      ∙ ap (λ b. old k +ℤ cond b (pos (length x.lines)) (pos 0)) (sym (other k order found))
      ∙ sym (lines_after k))
      (sym (lines_after (new_key t x)
      ∙ (λ i. none i +ℤ cond ((eq_by_cmp_equiv exact_order.total).refl (new_key t x) i) (pos (length x.lines)) (pos 0)) ∙ all (length x.lines)))
    where
      old : OrderKey → ℤ
      old k = count (λ j line. is_order j.warehouse j.district j.order k) t.lines

      other : (k : OrderKey) (order : Order) → get t.orders k ≡ Some order → eq_by_cmp order_cmp (new_key t x) k ≡ false
      other k order found = (eq_by_cmp_equiv exact_order.total).symm (new_key t x) k ∙ other_order t x wf last k order found

      none : count (λ j line. is_order j.warehouse j.district j.order (new_key t x)) t.lines ≡ pos 0
      none = total-zero exact_line (λ j line. cond (is_order j.warehouse j.district j.order (new_key t x)) (pos 1) (pos 0)) t.lines
          (λ j line found. ap (λ b. cond b (pos 1) (pos 0))
          (is_order-key j.warehouse j.district j.order (new_key t x) ∙ of_other t x wf last j line found))

      nothing : (a : ℤ) → a +ℤ pos 0 ≡ a
      nothing a = omega (arith, ints)

      all : (c : ℕ) → pos 0 +ℤ pos c ≡ pos c
      all c = omega (arith, ints)

  condition_7 : (k : LineKey) → Condition7At (after_new_order t x) k
  condition_7 = each-with_lines t (new_key t x) (λ j line. is_none line.delivery_date ≡ carrier_null (get (after_new_order t x).orders (order_of j)))
      (λ _. Unit {0}) 1 x.lines t.lines
      (λ j line found. con.condition_7 j line found ∙ ap carrier_null (sym (order_stays t x wf last j line found)))
      (λ _ _ _. tt)
      (λ i l _ _ _. ap carrier_null (sym (get-inserted exact_order t.orders (new_key t x) (order_row x))))

  condition_9 : (k : DistrictKey) → IsDistrictKey t.scale k → Condition9At (after_new_order t x) k
  condition_9 k is = kept-update_where exact_district is_home numbered_district (λ (w : Option District). option_map_or (λ r. r.year_to_date) w (pos 0))
      t.districts k (λ _ r. refl) ∙ con.condition_9 k is

  -- the new lines aren't delivered, and the customers of the old lines' orders stay
  delivered_stays : (k : CustomerKey) → delivered_amount (after_new_order t x) k ≡ delivered_amount t k
  delivered_stays k =
      total-with_lines t (new_key t x) (λ j line. cond (is_line_of (after_new_order t x).orders k j line) line.amount (pos 0)) false 1 x.lines t.lines
      (λ _ _. refl) (λ i _. no_line t x wf last i)
      ∙ nothing _
      ∙ total-alike exact_line (λ j line. cond (is_line_of (after_new_order t x).orders k j line) line.amount (pos 0))
      (λ j line. cond (is_line_of t.orders k j line) line.amount (pos 0)) t.lines
      (λ j line found. ap (λ (w : Option Order). cond (is_some line.delivery_date && (j.warehouse == k.warehouse) && (j.district == k.district)
      && option_map_or (λ order. order.customer == k.customer) w false) line.amount (pos 0)) (order_stays t x wf last j line found))
    where
      nothing : (a : ℤ) → a +ℤ pos 0 ≡ a
      nothing a = omega (arith, ints)

  condition_10 : (k : CustomerKey) → IsCustomerKey t.scale k → Condition10At (after_new_order t x) k
  condition_10 k is = con.condition_10 k is ∙ ap (λ a. a -ℤ paid_by_customer t k) (sym (delivered_stays k))

  condition_12 : (k : CustomerKey) → IsCustomerKey t.scale k → Condition12At (after_new_order t x) k
  condition_12 k is = con.condition_12 k is ∙ sym (delivered_stays k)

  pub new_order_keeps_consistent : IsConsistent (after_new_order t x)
  new_order_keeps_consistent = record {
    condition_1 = condition_1;
    condition_2 = condition_2;
    condition_3 = condition_3;
    condition_4 = condition_4;
    condition_5 = condition_5;
    condition_6 = condition_6;
    condition_7 = condition_7;
    condition_8 = con.condition_8;
    condition_9 = condition_9;
    condition_10 = condition_10;
    condition_12 = condition_12;
  }

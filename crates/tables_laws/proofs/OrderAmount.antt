-- The sum of OL_AMOUNT over an order's lines: by the lines' numbers, and its range.
use Rattle.std.proofs.Common.{◌≡◌, ℕ, zero, suc, ◌+◌, ◌<◌, ◌≤◌, ℤ, pos, ◌+ℤ◌, ◌*ℤ◌, ◌≤ℤ◌, true, false, cond, T, ◌==◌, ◌&&◌, true≢false, List, [], ◌∷◌, Option}
use Rattle.std.proofs.Common.{Some, None, is_some, refl, sym, ap, ◌∙◌, subst, arith}
use Rattle.std.proofs.lemmas.Int.{ints}
use Rattle.std.proofs.lemmas.Bool.{eqb-true}
use Rattle.std.proofs.lemmas.Bool.Decides.{nat_tests}
use Rattle.std.proofs.lemmas.Option.{same_Some}
use Rattle.std.specs.Option.{option_map_or}
use Rattle.std.specs.Ordering.{eq_by_cmp}
use Rattle.std.specs.FinMap.{FinMap, entries, entries_sorted, get, get-entries, find, is_sorted}
use Rattle.tables.specs.Sizes.{IsNumber}
use Rattle.tables.specs.Keys.{line_cmp, is_order, order_of}
use Rattle.tables.specs.Maps.{sum_entries, total, column, EachRow}
use Rattle.tables.specs.Database.{Database}
use Rattle.tables.specs.NewOrder.{line_key}
use Rattle.tables.specs.Delivery.{order_amount}
use Rattle.tables.specs.WellFormed.{IsWellFormed}
use Rattle.tables.specs.declared.limits.TheConstants.{MAX_LINE_AMOUNT, MAX_ORDER_LINES}
use Rattle.tables.specs.declared.keys.OrderKey.{OrderKey}
use Rattle.tables.specs.declared.keys.LineKey.{LineKey}
use Rattle.tables.specs.declared.rows.Order.{Order}
use Rattle.tables.specs.declared.rows.OrderLine.{OrderLine}
use Rattle.tables.proofs.Orders.{exact_line}
use Rattle.tables.proofs.Entries.{first, second, tied, found_first, found_after, absent_below}
use Rattle.tables_laws.proofs.Touched.{both, self}

-- the sum of f over the numbers from 1 to n
abbrev pub sum_to : (ℕ → ℤ) → ℕ → ℤ
sum_to f zero = pos 0
sum_to f (suc n) = sum_to f n +ℤ f (suc n)

-- with the next number
pub sum_to-next : (f : ℕ → ℤ) (n : ℕ) → sum_to f (n + 1) ≡ sum_to f n +ℤ f (n + 1)
sum_to-next f n = let next : suc n ≡ n + 1 = omega arith in subst (λ i. sum_to f i ≡ sum_to f n +ℤ f i) next refl

-- OL_AMOUNT of an order's line. An absent line counts as 0
abbrev pub amount_at : FinMap line_cmp OrderLine → OrderKey → ℕ → ℤ
amount_at m k i = column (λ r. r.amount) m (line_key k i)

-- the sum of OL_AMOUNT over an order's lines 1 to n
abbrev pub amount_to : FinMap line_cmp OrderLine → OrderKey → ℕ → ℤ
amount_to m k n = sum_to (amount_at m k) n

-- ---- sums over numbers
sum_zero : (n : ℕ) → sum_to (λ i. pos 0) n ≡ pos 0
sum_zero zero = refl
sum_zero (suc n) = ap (λ a. a +ℤ pos 0) (sum_zero n)

-- a summand more at the number a alone
module _ (f g : ℕ → ℤ) (a : ℕ) (v : ℤ) (here : f a ≡ g a +ℤ v) (elsewhere : (i : ℕ) → (i == a) ≡ false → f i ≡ g i) where
  sum_below : (n : ℕ) → n < a → sum_to f n ≡ sum_to g n
  sum_below zero low = refl
  sum_below (suc n) low =
      let other : (suc n == a) ≡ false = grind (arith, nat_tests) in
      λ i. sum_below n (omega arith) i +ℤ elsewhere (suc n) other i

  sum_added : (n : ℕ) → IsNumber n a → sum_to f n ≡ sum_to g n +ℤ v
  sum_added zero within = absurd (omega (arith, within.0, within.1))
  sum_added (suc n) within =
      elim (suc n == a) as (λ b. (suc n == a) ≡ b → sum_to f n +ℤ f (suc n) ≡ (sum_to g n +ℤ g (suc n)) +ℤ v) [
        | true ↦ λ e.
            let same : a ≡ suc n = sym (eqb-true (suc n) a e) in
            let last : f (suc n) ≡ g (suc n) +ℤ v = subst (λ i. f i ≡ g i +ℤ v) same here in
            let rest : sum_to f n ≡ sum_to g n = sum_below n (omega arith) in
            (λ i. rest i +ℤ last i) ∙ regrouped (sum_to g n) (g (suc n)) v
        | false ↦ λ e.
            let apart : (a ≡ suc n) → ⊥ = λ same. absurd (true≢false (sym (ap (λ i. suc n == i) same ∙ self (suc n)) ∙ e)) in
            let rest : sum_to f n ≡ sum_to g n +ℤ v = sum_added n (within.0, omega (arith, within.1, apart)) in
            (λ i. rest i +ℤ elsewhere (suc n) e i) ∙ swapped (sum_to g n) (g (suc n)) v
      ] refl
    where
      regrouped : (x y z : ℤ) → x +ℤ (y +ℤ z) ≡ (x +ℤ y) +ℤ z
      regrouped x y z = omega (arith, ints)

      swapped : (x y z : ℤ) → (x +ℤ z) +ℤ y ≡ (x +ℤ y) +ℤ z
      swapped x y z = omega (arith, ints)

-- ---- an order's lines by their numbers
-- a test that names one order passes at that order alone
pub order_named : (w d n : ℕ) (k : OrderKey) → is_order w d n k ≡ true → record { warehouse = w; district = d; order = n } ≡ k
order_named w d n k h =
    let p = both ((w == k.warehouse) && (d == k.district)) (n == k.order) h in
    let q = both (w == k.warehouse) (d == k.district) p.0 in
    λ i. record { warehouse = eqb-true w k.warehouse q.0 i; district = eqb-true d k.district q.1 i; order = eqb-true n k.order p.1 i }

-- and it passes there
pub order_itself : (k : OrderKey) → is_order k.warehouse k.district k.order k ≡ true
order_itself k = λ i. self k.warehouse i && self k.district i && self k.order i

module _ (k : OrderKey) where
  abbrev in_order : LineKey → OrderLine → ℤ
  in_order j line = cond (is_order j.warehouse j.district j.order k) line.amount (pos 0)

  abbrev found_amount : List (LineKey × OrderLine) → ℕ → ℤ
  found_amount es i = option_map_or (λ (r : OrderLine). r.amount) (find line_cmp (line_key k i) es) (pos 0)

  -- an entry of another key isn't found
  passed : (j : LineKey) (r : OrderLine) (es : List (LineKey × OrderLine)) (i : ℕ) → (line_key k i ≡ j → ⊥) → found_amount ((j, r) ∷ es) i ≡ found_amount es i
  passed j r es i apart =
      elim (eq_by_cmp line_cmp (line_key k i) j) as
      (λ b. eq_by_cmp line_cmp (line_key k i) j ≡ b → option_map_or (λ (r : OrderLine). r.amount) (cond b (Some r) (find line_cmp (line_key k i) es))
      (pos 0) ≡ found_amount es i) [
        | true ↦ λ tie. absurd (apart (exact_line.same (line_key k i) j (tied _ tie)))
        | false ↦ λ tie. refl
      ] refl

  entries_numbered : (n : ℕ) (es : List (LineKey × OrderLine)) → T (is_sorted line_cmp es)
      → ((j : LineKey) (r : OrderLine) → find line_cmp j es ≡ Some r → order_of j ≡ k → IsNumber n j.line)
      → sum_entries in_order es ≡ sum_to (found_amount es) n
  entries_numbered n [] h within = sym (sum_zero n)
  entries_numbered n (e ∷ es) h within =
      let rest : sum_entries in_order es ≡ sum_to (found_amount es) n =
      entries_numbered n es (second _ _ h) (λ j r found. within j r (found_after exact_line j r e es (first _ _ h) found)) in
      elim (is_order e.0.warehouse e.0.district e.0.order k) as
      (λ b. is_order e.0.warehouse e.0.district e.0.order k ≡ b → cond b e.1.amount (pos 0) +ℤ sum_entries in_order es ≡ sum_to (found_amount (e ∷ es)) n) [
        | true ↦ λ t.
            let order : order_of e.0 ≡ k = order_named e.0.warehouse e.0.district e.0.order k t in
            let key : e.0 ≡ line_key k e.0.line = ap (λ o. line_key o e.0.line) order in
            let amount : OrderLine → ℤ = λ r. r.amount in
            let now : found_amount (e ∷ es) e.0.line ≡ e.1.amount =
            ap (λ w. option_map_or amount w (pos 0)) (subst (λ j. find line_cmp j (e ∷ es) ≡ Some e.1) key (found_first exact_line e es)) in
            let before : found_amount es e.0.line ≡ pos 0 =
            ap (λ w. option_map_or amount w (pos 0)) (subst (λ j. find line_cmp j es ≡ None) key (absent_below exact_line e.0 es (first _ _ h))) in
            ap (λ a. e.1.amount +ℤ a) rest ∙ swapped e.1.amount (sum_to (found_amount es) n)
            ∙ sym (sum_added (found_amount (e ∷ es)) (found_amount es) e.0.line e.1.amount (now ∙ from_zero e.1.amount (found_amount es e.0.line) before)
            (λ i other. passed e.0 e.1 es i (λ same. true≢false (sym (self i) ∙ ap (λ (j : LineKey). i == j.line) same ∙ other)))
            n (within e.0 e.1 (found_first exact_line e es) order))
        | false ↦ λ t.
            let other : (i : ℕ) → line_key k i ≡ e.0
            → ⊥ = λ i same. true≢false (sym (order_itself k) ∙ ap (λ (j : LineKey). is_order j.warehouse j.district j.order k) same ∙ t) in
            dropped (sum_entries in_order es) ∙ rest ∙ sym (λ x. sum_to (λ i. passed e.0 e.1 es i (other i) x) n)
      ] refl
    where
      swapped : (x y : ℤ) → x +ℤ y ≡ y +ℤ x
      swapped x y = omega (arith, ints)

      from_zero : (x y : ℤ) → y ≡ pos 0 → x ≡ y +ℤ x
      from_zero x y e = omega (arith, ints)

      dropped : (x : ℤ) → pos 0 +ℤ x ≡ x
      dropped x = omega (arith, ints)

  -- where an order's lines have numbers from 1 to n, the sum over them is the sum over the numbers
  pub total-numbered : (n : ℕ) (m : FinMap line_cmp OrderLine) → EachRow (λ j r. order_of j ≡ k → IsNumber n j.line) m → total in_order m ≡ amount_to m k n
  unfolding total
  total-numbered n m within =
      entries_numbered n (entries m) (entries_sorted m) (λ j r found. within j r (get-entries m j ∙ found))
      ∙ ap (λ f. sum_to f n) (λ x i. option_map_or (λ (r : OrderLine). r.amount) (sym (get-entries m (line_key k i)) x) (pos 0))

  -- a sum of lines whose amounts are within their range
  pub amount_to-within : (m : FinMap line_cmp OrderLine) → EachRow (λ j r. (pos 0 ≤ℤ r.amount) × (r.amount ≤ℤ MAX_LINE_AMOUNT)) m
      → (n : ℕ) → (pos 0 ≤ℤ amount_to m k n) × (amount_to m k n ≤ℤ (MAX_LINE_AMOUNT *ℤ pos n))
  amount_to-within m each zero = (omega (arith, ints), omega (arith, ints))
  amount_to-within m each (suc n) =
      let rest = amount_to-within m each n in
      let one = within (get m (line_key k (suc n))) refl in
      (omega (arith, ints, rest.0, one.0), omega (arith, ints, rest.1, one.1))
    where
      within : (w : Option OrderLine) → get m (line_key k (suc n)) ≡ w → (pos 0 ≤ℤ option_map_or (λ r. r.amount) w (pos 0))
          × (option_map_or (λ r. r.amount) w (pos 0) ≤ℤ MAX_LINE_AMOUNT)
      within None e = (omega (arith, ints), omega (arith, ints))
      within (Some r) e = each (line_key k (suc n)) r e

-- ---- of well-formed tables
module _ (t : Database) (wf : IsWellFormed t) (k : OrderKey) where
  -- an order's lines have numbers from 1 to its O_OL_CNT
  pub order_amount-counted : (order : Order) → get t.orders k ≡ Some order → order_amount t k ≡ amount_to t.lines k order.line_count
  order_amount-counted order found = total-numbered k order.line_count t.lines (λ j r there is.
      let line_order = wf.line_orders j r there in
      let same : line_order.0 ≡ order = same_Some _ _ (sym line_order.1 ∙ ap (get t.orders) is ∙ found) in
      ((wf.lines j (ap is_some there)).3.0, subst (λ o. j.line ≤ o.line_count) same line_order.2))

  -- and at most 15 lines
  pub order_amount-numbered : order_amount t k ≡ amount_to t.lines k MAX_ORDER_LINES
  order_amount-numbered = total-numbered k MAX_ORDER_LINES t.lines (λ j r there is. (wf.lines j (ap is_some there)).3)

  pub amounts_within : (n : ℕ) → (pos 0 ≤ℤ amount_to t.lines k n) × (amount_to t.lines k n ≤ℤ (MAX_LINE_AMOUNT *ℤ pos n))
  amounts_within n = amount_to-within k t.lines (λ j r there. let row = wf.line_rows j r there in (row.at_least, row.at_most)) n

  -- so their sum is at most 15 times the largest amount
  pub order_amount-within : (pos 0 ≤ℤ order_amount t k) × (order_amount t k ≤ℤ (MAX_LINE_AMOUNT *ℤ pos MAX_ORDER_LINES))
  order_amount-within = subst (λ a. (pos 0 ≤ℤ a) × (a ≤ℤ (MAX_LINE_AMOUNT *ℤ pos MAX_ORDER_LINES))) (sym order_amount-numbered) (amounts_within MAX_ORDER_LINES)

-- An order's lines in the order of ORDER-LINE's keys are its lines by their numbers.
use Rattle.std.proofs.Common.{◌≡◌, ℕ, zero, suc, ◌+◌, ◌<◌, ◌≤◌, Bool, true, false, cond, T, ◌==◌, true≢false, List, [], ◌∷◌, ◌++◌, map, filter, Option, Some}
use Rattle.std.proofs.Common.{None, is_some, refl, sym, ap, ◌∙◌, subst, arith}
use Rattle.std.proofs.lemmas.Bool.{eqb-true}
use Rattle.std.proofs.lemmas.Bool.Decides.{nat_tests}
use Rattle.std.proofs.lemmas.Option.{same_Some}
use Rattle.std.specs.Option.{option_to_list}
use Rattle.std.specs.Ordering.{eq_by_cmp, is_lt, nat_cmp, ordering_then}
use Rattle.std.specs.Cmp.{tied_itself}
use Rattle.std.specs.FinMap.{entries, entries_sorted, get, get-entries, find, is_sorted}
use Rattle.std.specs.FinMap.Entries.{below_all}
use Rattle.std.specs.declared.cmp.Ordering.{Ordering}
use Rattle.std.specs.declared.cmp.Ordering.TheVariants.{Less, Equal, Greater}
use Rattle.tables.specs.Sizes.{IsNumber}
use Rattle.tables.specs.Keys.{line_cmp, is_order, order_of}
use Rattle.tables.specs.Database.{Database}
use Rattle.tables.specs.NewOrder.{line_key}
use Rattle.tables.specs.OrderStatus.{lines_of}
use Rattle.tables.specs.WellFormed.{IsWellFormed}
use Rattle.tables.specs.declared.keys.OrderKey.{OrderKey}
use Rattle.tables.specs.declared.keys.LineKey.{LineKey}
use Rattle.tables.specs.declared.rows.Order.{Order}
use Rattle.tables.specs.declared.rows.OrderLine.{OrderLine}
use Rattle.tables.proofs.Orders.{exact_number, exact_line}
use Rattle.tables.proofs.Entries.{first, second, tied, found_first, found_after}
use Rattle.tables_laws.proofs.Touched.{self}
use Rattle.tables_laws.proofs.OrderAmount.{order_named, order_itself}
use Rattle.queries.specs.Lines.{rows_to, lines_up_to}

-- ---- rows by their numbers
module _ {X : Type 0} where
  none_to : (f : ℕ → Option X) (n : ℕ) → ((i : ℕ) → i ≤ n → f i ≡ None) → rows_to f n ≡ []
  none_to f zero none = refl
  none_to f (suc n) none = λ x. none_to f n (λ i small. none i (omega (arith, small))) x ++ option_to_list (none (suc n) (omega arith) x)

  -- one row more, at the number a, before all others
  module _ (f g : ℕ → Option X) (a : ℕ) (v : X) (here : f a ≡ Some v) (below : (i : ℕ) → i < a → f i ≡ None) (none : (i : ℕ) → i ≤ a → g i ≡ None)
      (above : (i : ℕ) → a < i → f i ≡ g i) where
    rows_first : (n : ℕ) → IsNumber n a → rows_to f n ≡ v ∷ rows_to g n
    rows_first zero within = absurd (omega (arith, within.0, within.1))
    rows_first (suc n) within =
        elim (suc n == a) as (λ b. (suc n == a) ≡ b → rows_to f n ++ option_to_list (f (suc n)) ≡ v ∷ (rows_to g n ++ option_to_list (g (suc n)))) [
          | true ↦ λ e.
              let same : suc n ≡ a = eqb-true (suc n) a e in
              let last : f (suc n) ≡ Some v = ap f same ∙ here in
              let nothing : g (suc n) ≡ None = none (suc n) (omega (arith, same)) in
              let before : rows_to f n ≡ [] = none_to f n (λ i small. below i (omega (arith, small, same))) in
              let rest : rows_to g n ≡ [] = none_to g n (λ i small. none i (omega (arith, small, same))) in
              (λ x. before x ++ option_to_list (last x)) ∙ sym (λ x. v ∷ (rest x ++ option_to_list (nothing x)))
          | false ↦ λ e.
              let apart : (a ≡ suc n) → ⊥ = λ same. absurd (true≢false (sym (ap (λ i. suc n == i) same ∙ self (suc n)) ∙ e)) in
              let rest : rows_to f n ≡ v ∷ rows_to g n = rows_first n (within.0, omega (arith, within.1, apart)) in
              λ x. rest x ++ option_to_list (above (suc n) (omega (arith, within.1, apart)) x)
        ] refl

-- with the next line
pub lines_next : (t : Database) (k : OrderKey) (n : ℕ) → lines_up_to t k (n + 1) ≡ lines_up_to t k n ++ option_to_list (get t.lines (line_key k (n + 1)))
lines_next t k n = let next : suc n ≡ n + 1 = omega arith in subst (λ i. lines_up_to t k i ≡ lines_up_to t k n ++ option_to_list (get t.lines (line_key k i)))
    next refl

-- ---- an order's lines among the entries of ORDER-LINE
module _ (k : OrderKey) where
  abbrev is_line : LineKey × OrderLine → Bool
  is_line e = is_order k.warehouse k.district k.order (order_of e.0)

  abbrev lines_in : List (LineKey × OrderLine) → List OrderLine
  lines_in es = map (λ (e : LineKey × OrderLine). e.1) (filter is_line es)

  abbrev row_in : List (LineKey × OrderLine) → ℕ → Option OrderLine
  row_in es i = find line_cmp (line_key k i) es

  -- an entry of another key isn't found
  passed : (e : LineKey × OrderLine) (es : List (LineKey × OrderLine)) (i : ℕ) → (line_key k i ≡ e.0 → ⊥) → row_in (e ∷ es) i ≡ row_in es i
  passed e es i apart =
      elim (eq_by_cmp line_cmp (line_key k i) e.0) as (λ b. eq_by_cmp line_cmp (line_key k i) e.0 ≡ b → cond b (Some e.1) (row_in es i) ≡ row_in es i) [
        | true ↦ λ tie. absurd (apart (exact_line.same (line_key k i) e.0 (tied _ tie)))
        | false ↦ λ tie. refl
      ] refl

  -- in one order the order of the keys is that of the lines' numbers
  line_less : (a i : ℕ) → T (is_lt (line_cmp (line_key k a) (line_key k i))) → a < i
  line_less a i h = number_less (nat_cmp a i) refl (subst (λ r. T (is_lt r)) same h)
    where
      same : line_cmp (line_key k a) (line_key k i) ≡ nat_cmp a i
      same x = ordering_then (tied_itself exact_number.total k.warehouse x)
          (ordering_then (tied_itself exact_number.total k.district x) (ordering_then (tied_itself exact_number.total k.order x) (nat_cmp a i)))

      number_less : (r : Ordering) → nat_cmp a i ≡ r → T (is_lt r) → a < i
      number_less Less e p = grind (arith, nat_tests, e)
      number_less Equal e p = absurd p
      number_less Greater e p = absurd p

  -- above the line of number a there is none of a number up to a
  none_lower : (a i : ℕ) (es : List (LineKey × OrderLine)) → i ≤ a → T (below_all line_cmp (line_key k a) es) → row_in es i ≡ None
  none_lower a i [] small h = refl
  none_lower a i (e ∷ es) small h =
      passed e es i (λ same. let more = line_less a i (subst (λ j. T (is_lt (line_cmp (line_key k a) j))) (sym same) (first _ _ h)) in
      omega (arith, small, more))
      ∙ none_lower a i es small (second _ _ h)

  lines_numbered : (n : ℕ) (es : List (LineKey × OrderLine)) → T (is_sorted line_cmp es)
      → ((j : LineKey) (r : OrderLine) → find line_cmp j es ≡ Some r → order_of j ≡ k → IsNumber n j.line) → lines_in es ≡ rows_to (row_in es) n
  lines_numbered n [] h within = sym (none_to (row_in []) n (λ i small. refl))
  lines_numbered n (e ∷ es) h within =
      let higher : T (below_all line_cmp e.0 es) = first (below_all line_cmp e.0 es) (is_sorted line_cmp es) h in
      let sorted : T (is_sorted line_cmp es) = second (below_all line_cmp e.0 es) (is_sorted line_cmp es) h in
      let rest : lines_in es ≡ rows_to (row_in es) n = lines_numbered n es sorted (λ j r found. within j r (found_after exact_line j r e es higher found)) in
      elim (is_line e) as (λ b. is_line e ≡ b → map (λ (e : LineKey × OrderLine). e.1) (cond b (e ∷ filter is_line es) (filter is_line es)) ≡ rows_to
      (row_in (e ∷ es)) n) [
        | true ↦ λ t.
            let a = e.0.line in
            let order : order_of e.0 ≡ k = sym (order_named k.warehouse k.district k.order (order_of e.0) t) in
            let key : e.0 ≡ line_key k a = ap (λ o. line_key o a) order in
            let low : T (below_all line_cmp (line_key k a) es) = subst (λ j. T (below_all line_cmp j es)) key higher in
            let here : row_in (e ∷ es) a ≡ Some e.1 = subst (λ j. find line_cmp j (e ∷ es) ≡ Some e.1) key (found_first exact_line e es) in
            let other : (i : ℕ) → ((i ≡ a) → ⊥) → row_in (e ∷ es) i ≡ row_in es i = λ i apart. passed e es i (λ same. apart (ap (λ (j : LineKey). j.line) same))
            in
            let below : (i : ℕ) → i < a → row_in (e ∷ es) i ≡ None = λ i less. other i (λ same. omega (arith, less, same))
            ∙ none_lower a i es (omega (arith, less)) low in
            let above : (i : ℕ) → a < i → row_in (e ∷ es) i ≡ row_in es i = λ i more. other i (λ same. omega (arith, more, same)) in
            ap (λ l. e.1 ∷ l) rest
            ∙ sym (rows_first (row_in (e ∷ es)) (row_in es) a e.1 here below (λ i small. none_lower a i es small low) above n
            (within e.0 e.1 (found_first exact_line e es) order))
        | false ↦ λ t.
            let other : (i : ℕ) → line_key k i ≡ e.0
            → ⊥ = λ i same. true≢false (sym (order_itself k) ∙ ap (λ (j : LineKey). is_order k.warehouse k.district k.order (order_of j)) same ∙ t) in
            rest ∙ sym (λ x. rows_to (λ i. passed e es i (other i) x) n)
      ] refl

-- of well-formed tables: they have numbers from 1 to O_OL_CNT
pub lines_counted : (t : Database) (k : OrderKey) (order : Order) → IsWellFormed t → get t.orders k ≡ Some order
    → lines_of t k ≡ lines_up_to t k order.line_count
lines_counted t k order wf found =
    lines_numbered k order.line_count (entries t.lines) (entries_sorted t.lines) (λ j r there is.
    let line : get t.lines j ≡ Some r = get-entries t.lines j ∙ there in
    let line_order = wf.line_orders j r line in
    let same : line_order.0 ≡ order = same_Some _ _ (sym line_order.1 ∙ ap (get t.orders) is ∙ found) in
    ((wf.lines j (ap is_some line)).3.0, subst (λ o. j.line ≤ o.line_count) same line_order.2))
    ∙ (λ x. rows_to (λ i. sym (get-entries t.lines (line_key k i)) x) order.line_count)

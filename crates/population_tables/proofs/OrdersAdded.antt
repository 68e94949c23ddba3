-- Orders with their lines, added one after another. Which lines there are depends on the orders' rows, so the orders that
-- are added later must be others.
use Rattle.std.proofs.Common.{◌≡◌, ℕ, ◌+◌, ◌≤◌, Bool, true, false, cond, ◌&&◌, ◌||◌, true≢false, Option, Some, refl, sym, ap, ◌∙◌, subst, arith}
use Rattle.std.specs.BTreeMap as tree
use Rattle.std.specs.BTreeMap.{BTreeMap}
use Rattle.std.specs.Option.{option_map_or}
use Rattle.std.specs.FinMap.{FinMap, get, from_entries}
use Rattle.std.proofs.lemmas.Bool.Decides.{nat_tests}
use Rattle.tables.specs.Sizes.{Sizes}
use Rattle.tables.specs.Keys.{order_cmp, line_cmp, order_of}
use Rattle.tables.specs.declared.keys.OrderKey.{OrderKey}
use Rattle.tables.specs.declared.rows.Order.{Order}
use Rattle.tables.specs.declared.rows.OrderLine.{OrderLine}
use Rattle.tables.proofs.Orders.{exact_order}
use Rattle.population_tables.specs.First.{Kind, IsFirstOrder, IsFirstLine}
use Rattle.population_tables.specs.Adds.{is, is_in, is_number, is_at, is_order_at, is_order_in, is_line_in, has_line, Added, AddsLines, AddsOrders}
use Rattle.population_tables.proofs.Added.{adds_one, adds_same, adds_both, not_added, get_inserted, tied_three, is_in_more, right}

-- the lines of an order that is there are as many as its row says
counted : (b : Bool) (v : Order) (found other : Option Order) (n : ℕ) → found ≡ cond b (Some v) other
    → (b && is_number v.line_count n) ≡ (b && is_number (option_map_or (λ r. r.line_count) found 0) n)
counted true v found other n is_row = ap (λ o. is_number (option_map_or (λ (r : Order). r.line_count) o 0) n) (sym is_row)
counted false v found other n is_row = refl

module _ (kind : Kind) (s : Sizes) where
  -- an order, and then as many lines of it
  pub one_order : (m n : BTreeMap OrderKey Order) (k : OrderKey) (v : Order) {old_lines new_lines : FinMap line_cmp OrderLine} → IsFirstOrder kind s k.order v
      → tree.Updates order_cmp m n k (Some v) → AddsLines kind s (is_order_at k) (is_line_in (is_number v.line_count)) old_lines new_lines
      → AddsOrders kind s (is_order_at k) (from_entries m.entries) (from_entries n.entries) old_lines new_lines
  one_order m n k v holds updates lines =
      let is_key : (q : OrderKey) → _ ≡ is_order_at k q = λ q. tied_three q.warehouse q.district q.order k.warehouse k.district k.order in
      record {
        orders = adds_one exact_order m n k v holds is_key updates;
        lines = adds_same (λ j. counted (is_order_at k (order_of j)) v (get (from_entries {R = order_cmp} n.entries) (order_of j)) _ j.line
            (get_inserted exact_order m n k v updates (order_of j)
            ∙ ap (λ b. cond b (Some v) (get (from_entries {R = order_cmp} m.entries) (order_of j))) (is_key (order_of j)))) lines;
      }

-- at one line: before and after are whether its order has it, before and after the later orders
apart_at : {X : Type 0} (P : X → Type 0) (p q before after : Bool) (old middle new : Option X) → (q ≡ true → p ≡ false) → (q ≡ false → after ≡ before)
    → Added P (p && before) old middle → Added P (q && after) middle new → Added P ((p || q) && after) old new
apart_at P true true before after old middle new apart same first second = absurd (true≢false (apart refl))
apart_at P false true before after old middle new apart same first second = subst (λ m. Added P after m new) first second
apart_at P true false before after old middle new apart same first second =
    subst (λ b. Added P b old new) (sym (same refl)) (subst (λ n. Added P before old n) (sym second) first)
apart_at P false false before after old middle new apart same first second = second ∙ first

module _ {kind : Kind} {s : Sizes} where
  -- some orders with their lines, and then others
  pub orders_both : {p q both : OrderKey → Bool} {old middle new : FinMap order_cmp Order} {old_lines middle_lines new_lines : FinMap line_cmp OrderLine}
      → ((k : OrderKey) → both k ≡ (p k || q k)) → ((k : OrderKey) → q k ≡ true → p k ≡ false) → AddsOrders kind s p old middle old_lines middle_lines
      → AddsOrders kind s q middle new middle_lines new_lines → AddsOrders kind s both old new old_lines new_lines
  orders_both {p} {q} {both} {old} {middle} {new} {old_lines} {middle_lines} {new_lines} is_both apart first second = record {
    orders = adds_both is_both first.orders second.orders;
    lines = record {
      rows = λ j.
          let k : OrderKey = order_of j in
          let stays : q k ≡ false → has_line new j ≡ has_line middle j = λ e.
          ap (λ o. is_number (option_map_or (λ (r : Order). r.line_count) o 0) j.line) (not_added (IsFirstOrder kind s k.order) (q k) _ _ e (second.orders.rows k)) in
          subst (λ b. Added (IsFirstLine kind s j) (b && has_line new j) (get old_lines j) (get new_lines j)) (sym (is_both k))
          (apart_at (IsFirstLine kind s j) (p k) (q k) (has_line middle j) (has_line new j) _ _ _ (apart k) stays (first.lines.rows j) (second.lines.rows j));
    };
  }

  -- the next order of a district
  pub order_more : (w d i j : ℕ) {old middle new : FinMap order_cmp Order} {old_lines middle_lines new_lines : FinMap line_cmp OrderLine} → j ≡ i + 1 → 1 ≤ i
      → AddsOrders kind s (is_order_in (is_at w d) (is_in 1 i)) old middle old_lines middle_lines
      → AddsOrders kind s (is_order_at (record { warehouse = w; district = d; order = i })) middle new middle_lines new_lines
      → AddsOrders kind s (is_order_in (is_at w d) (is_in 1 j)) old new old_lines new_lines
  order_more w d i j next from first second = orders_both (λ k. right (is_at w d k.warehouse k.district) _ _ _ (is_in_more 1 i j k.order from next))
      (λ k. apart_last (is_at w d k.warehouse k.district) i k.order) first second
    where
      apart_last : (x : Bool) (n k : ℕ) → (x && is n k) ≡ true → (x && is_in 1 n k) ≡ false
      apart_last true n k e = grind (arith, nat_tests)
      apart_last false n k e = refl

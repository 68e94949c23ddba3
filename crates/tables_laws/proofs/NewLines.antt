-- ORDER-LINE with the lines of an order that had none.
use Rattle.std.proofs.Common.{◌≡◌, ℕ, suc, ◌+◌, ◌<◌, ◌≤◌, ℤ, pos, ◌+ℤ◌, Bool, true, false, cond, List, [], ◌∷◌, length, All, None, refl, ap, ◌∙◌, arith}
use Rattle.std.proofs.lemmas.Int.{ints}
use Rattle.std.proofs.lemmas.List.Elements.{All-head, All-tail}
use Rattle.std.specs.Ordering.{eq_by_cmp}
use Rattle.std.specs.FinMap.{FinMap, get, insert}
use Rattle.tables.specs.Keys.{line_cmp}
use Rattle.tables.specs.Maps.{total, EachRow}
use Rattle.tables.specs.Database.{Database}
use Rattle.tables.specs.NewOrder.{line_key, line_row, with_lines}
use Rattle.tables.specs.declared.keys.OrderKey.{OrderKey}
use Rattle.tables.specs.declared.keys.LineKey.{LineKey}
use Rattle.tables.specs.declared.rows.OrderLine.{OrderLine}
use Rattle.tables.specs.declared.new_order.RequestedLine.{RequestedLine}
use Rattle.tables.proofs.Orders.{exact_line}
use Rattle.tables.proofs.Entries.{tied}
use Rattle.tables_laws.proofs.Rows.{each_inserted, get-insert_other}
use Rattle.tables_laws.proofs.Inserts.{total-insert}

module _ (t : Database) (k : OrderKey) where
  -- what holds of each row and of the new lines, numbered from n on, holds of each row after them
  pub each-with_lines : (P : LineKey → OrderLine → Type 0) (Q : RequestedLine → Type 0) (n : ℕ) (ls : List RequestedLine) (m : FinMap line_cmp OrderLine)
      → EachRow P m → All Q ls
      → ((i : ℕ) (l : RequestedLine) → n ≤ i → i < n + length ls → Q l → P (line_key k i) (line_row t l)) → EachRow P (with_lines t k n ls m)
  each-with_lines P Q n [] m each all new = each
  each-with_lines P Q n (l ∷ ls) m each all new =
      each-with_lines P Q (n + 1) ls (insert m (line_key k n) (line_row t l))
      (each_inserted exact_line P m (line_key k n) (line_row t l) each (new n l (omega arith) (omega arith) (All-head Q l ls all)))
      (All-tail Q l ls all)
      (λ i a low high q. new i a (omega arith) (omega arith) q)

  other_number : (i n : ℕ) → n + 1 ≤ i → eq_by_cmp line_cmp (line_key k i) (line_key k n) ≡ false
  other_number i n above =
      elim (eq_by_cmp line_cmp (line_key k i) (line_key k n)) as (λ b. eq_by_cmp line_cmp (line_key k i) (line_key k n) ≡ b → b ≡ false) [
        | true ↦ λ tie. let same : i ≡ n = ap (λ (j : LineKey). j.line) (exact_line.same (line_key k i) (line_key k n) (tied _ tie)) in absurd (omega arith)
        | false ↦ λ tie. refl
      ] refl

  -- a sum to which each new line adds 1, or each adds nothing, where no row stood at their keys
  pub total-with_lines : (f : LineKey → OrderLine → ℤ) (counts : Bool) (n : ℕ) (ls : List RequestedLine) (m : FinMap line_cmp OrderLine)
      → ((i : ℕ) (l : RequestedLine) → f (line_key k i) (line_row t l) ≡ cond counts (pos 1) (pos 0)) → ((i : ℕ) → n ≤ i → get m (line_key k i) ≡ None)
      → total f (with_lines t k n ls m) ≡ total f m +ℤ cond counts (pos (length ls)) (pos 0)
  total-with_lines f true n [] m adds free = omega (arith, ints)
  total-with_lines f false n [] m adds free = omega (arith, ints)
  total-with_lines f counts n (l ∷ ls) m adds free =
      total-with_lines f counts (n + 1) ls (insert m (line_key k n) (line_row t l)) adds
      (λ i above. get-insert_other exact_line m (line_key k n) (line_row t l) (line_key k i) (other_number i n above) ∙ free i (omega arith))
      ∙ ap (λ a. a +ℤ cond counts (pos (length ls)) (pos 0)) (total-insert exact_line f m (line_key k n) (line_row t l) (free n (omega arith))
      ∙ ap (λ a. a +ℤ total f m) (adds n l))
      ∙ regrouped counts (total f m) (length ls)
    where
      regrouped : (b : Bool) (a : ℤ) (c : ℕ) → (cond b (pos 1) (pos 0) +ℤ a) +ℤ cond b (pos c) (pos 0) ≡ a +ℤ cond b (pos (suc c)) (pos 0)
      regrouped true a c = omega (arith, ints)
      regrouped false a c = omega (arith, ints)

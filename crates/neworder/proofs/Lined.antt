-- The row of a line more of an order changes one record, and so does what it draws from its stock.
use Rattle.std.proofs.Common.{◌≡◌, ◌≢◌, ℕ, ◌+◌, ◌&&◌, List, [], ◌∷◌, ◌++◌, length, Some, refl, sym, ap, ◌∙◌, arith}
use Rattle.std.proofs.lemmas.List.Sums.{fold_push}
use Rattle.std.specs.Option.{option_map}
use Rattle.std.specs.FinMap.{FinMap, get, insert}
use Rattle.tables.specs.Keys.{line_cmp, stock_cmp, is_stock}
use Rattle.tables.specs.Database.{Database}
use Rattle.tables.specs.NewOrder.{new_key, line_key, line_row, with_lines, stock_key, drawn, draw, after_new_order}
use Rattle.tables.specs.Rows.{row_at, line_words, stock_words}
use Rattle.tables.specs.declared.keys.OrderKey.{OrderKey}
use Rattle.tables.specs.declared.rows.OrderLine.{OrderLine}
use Rattle.tables.specs.declared.rows.Stock.{Stock}
use Rattle.tables.specs.declared.new_order.RequestedLine.{RequestedLine}
use Rattle.tables.specs.declared.new_order.NewOrderInput.{NewOrderInput}
use Rattle.tables.specs.declared.records.RecordKey.{RecordKey}
use Rattle.tables.specs.declared.records.RecordKey.TheVariants as key
use Rattle.tables.proofs.Orders.{exact_line, exact_stock}
use Rattle.neworder.specs.Steps.{after_lines}
use Rattle.tables_laws.proofs.Touched.{self, stock_named, inserted, not_inserted, untouched, touched}

-- ORDER-LINE with one line more
with_lines-push : (t : Database) (k : OrderKey) (n : ℕ) (ls : List RequestedLine) (l : RequestedLine) (m : FinMap line_cmp OrderLine)
    → with_lines t k n (ls ++ l ∷ []) m ≡ insert (with_lines t k n ls m) (line_key k (n + length ls)) (line_row t l)
with_lines-push t k n [] l m = ap (λ i. insert m (line_key k i) (line_row t l)) (let e : n ≡ n + 0 = omega arith in e)
with_lines-push t k n (a ∷ ls) l m =
    with_lines-push t k (n + 1) ls l (insert m (line_key k n) (line_row t a))
    ∙ ap (λ i. insert (with_lines t k (n + 1) ls (insert m (line_key k n) (line_row t a))) (line_key k i) (line_row t l))
    (let e : n + 1 + length ls ≡ n + length (a ∷ ls) = omega arith in e)

module _ (t : Database) (x : NewOrderInput) where
  -- once all its lines are done, an order is
  pub all_lines : after_lines t x x.lines x.lines ≡ after_new_order t x
  all_lines = refl

  module _ (rows draws : List RequestedLine) (l : RequestedLine) where
    -- the tables before the line, and what it changes of ORDER-LINE
    abbrev lines : FinMap line_cmp OrderLine
    lines = (after_lines t x rows draws).lines

    lines_after : (after_lines t x (rows ++ l ∷ []) draws).lines ≡ insert lines (line_key (new_key t x) (length rows + 1)) (line_row t l)
    lines_after = with_lines-push t (new_key t x) 1 rows l t.lines ∙ ap (λ i. insert lines (line_key (new_key t x) i) (line_row t l))
        (let e : 1 + length rows ≡ length rows + 1 = omega arith in e)

    -- its own record
    pub lined : row_at (after_lines t x (rows ++ l ∷ []) draws) (key.OrderLine (line_key (new_key t x) (length rows + 1))) ≡ Some (line_words (line_row t l))
    lined = ap (λ (m : FinMap line_cmp OrderLine). option_map line_words (get m (line_key (new_key t x) (length rows + 1)))) lines_after
        ∙ inserted exact_line line_words lines (line_key (new_key t x) (length rows + 1)) (line_row t l)

    -- and each other record
    pub lined_others : (j : RecordKey) → j ≢ key.OrderLine (line_key (new_key t x) (length rows + 1))
        → row_at (after_lines t x (rows ++ l ∷ []) draws) j ≡ row_at (after_lines t x rows draws) j
    lined_others (key.Warehouse w) a = refl
    lined_others (key.District k) a = refl
    lined_others (key.Customer k) a = refl
    lined_others (key.NewOrder k) a = refl
    lined_others (key.Order k) a = refl
    lined_others (key.OrderLine k) a = ap (λ (m : FinMap line_cmp OrderLine). option_map line_words (get m k)) lines_after
        ∙ not_inserted exact_line line_words lines (line_key (new_key t x) (length rows + 1)) (line_row t l) k (λ e. a (ap key.OrderLine e))
    lined_others (key.Stock k) a = refl
    lined_others (key.Oldest k) a = refl
    lined_others (key.Last k) a = refl
    lined_others (key.CustomerData k) a = refl

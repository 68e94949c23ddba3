-- The lines of a reply, one line more.
use Rattle.std.proofs.Common.{◌≡◌, ℕ, ℤ, pos, ◌*ℤ◌, ◌&&◌, cond, List, [], ◌∷◌, ◌++◌, Some, refl, ap, ◌∙◌}
use Rattle.std.specs.Option.{option_map, option_map_or}
use Rattle.std.specs.FinMap.{FinMap, get}
use Rattle.tables.specs.Keys.{stock_cmp, is_stock}
use Rattle.tables.specs.Database.{Database}
use Rattle.tables.specs.NewOrder.{stock_key, drawn, draw, after_draws, line_amount, supplied_line, supplied_lines}
use Rattle.tables.specs.declared.rows.Stock.{Stock}
use Rattle.tables.specs.declared.new_order.RequestedLine.{RequestedLine}
use Rattle.tables.specs.declared.new_order.SuppliedLine.{SuppliedLine}
use Rattle.tables.proofs.Orders.{exact_stock}
use Rattle.tables_laws.proofs.Updates.{get-map_rows}
use Rattle.tables_laws.proofs.Touched.{self}

pub supplied-push : (t : Database) (w : ℕ) (m : FinMap stock_cmp Stock) (ls : List RequestedLine) (l : RequestedLine)
    → supplied_lines t w m (ls ++ l ∷ []) ≡ supplied_lines t w m ls ++ supplied_line t (draw w (after_draws w ls m) l) l ∷ []
supplied-push t w m [] l = refl
supplied-push t w m (a ∷ ls) l = ap (λ s. supplied_line t (draw w m a) a ∷ s) (supplied-push t w (draw w m a) ls l)

-- a line's amount is the same at all tables that have the same items
pub same_amount : (t0 t : Database) (l : RequestedLine) → t.items ≡ t0.items → line_amount t l ≡ line_amount t0 l
same_amount t0 t l items = λ i. pos l.quantity *ℤ option_map_or (λ r. r.price) (get (items i) l.item) (pos 0)

-- the line of a reply, by its parts
abbrev pub told_line : RequestedLine → ℕ → ℤ → SuppliedLine
told_line l stock amount = record { item = l.item; supply_warehouse = l.supply_warehouse; stock = stock; amount = amount }

-- the stock that a line leaves
pub drawn_there : (w : ℕ) (l : RequestedLine) (m : FinMap stock_cmp Stock) (r : Stock) → get m (stock_key l) ≡ Some r
    → get (draw w m l) (stock_key l) ≡ Some (drawn w l r)
drawn_there w l m r found =
    get-map_rows exact_stock (λ j s. cond (is_stock l.supply_warehouse l.item j) (drawn w l s) s) m (stock_key l)
    ∙ (λ i. option_map (λ s. cond (self l.supply_warehouse i && self l.item i) (drawn w l s) s) (found i))

-- STOCK after the draws of an order's lines: the same keys, and columns that stay within their ranges.
use Rattle.std.proofs.Common.{◌≡◌, ℕ, suc, ◌+◌, ◌-◌, ◌*◌, ◌≤◌, nat_le, true, false, cond, ◌==◌, List, [], ◌∷◌, length, All, refl, arith}
use Rattle.std.proofs.lemmas.Bool.Decides.{nat_tests}
use Rattle.std.proofs.lemmas.List.Elements.{All-head, All-tail}
use Rattle.std.specs.FinMap.{FinMap}
use Rattle.tables.specs.Sizes.{Sizes, IsBetween}
use Rattle.tables.specs.Keys.{stock_cmp, is_stock, IsStockKey}
use Rattle.tables.specs.Maps.{RowsAt, EachRow}
use Rattle.tables.specs.NewOrder.{IsRequestedLine, drawn, draw, after_draws}
use Rattle.tables.specs.WellFormed.{IsCountTo}
use Rattle.tables.specs.declared.limits.TheConstants.{MIN_STOCK, MAX_STOCK, MAX_QUANTITY, RESTOCK}
use Rattle.tables.specs.declared.rows.Stock.{Stock}
use Rattle.tables.specs.declared.new_order.RequestedLine.{RequestedLine}
use Rattle.tables.proofs.Orders.{exact_stock}
use Rattle.tables_laws.proofs.Rows.{updated_rows, each_updated}

-- a stock that so many lines may still draw from, with room below the top for n commits after them
pub record IsDrawable (top n lines : ℕ) (r : Stock) : Type 0 where
  pub quantity : IsBetween MIN_STOCK MAX_STOCK r.quantity
  pub year_to_date : IsCountTo top n (r.year_to_date + MAX_QUANTITY * lines)
  pub orders : IsCountTo top n (r.orders + MAX_QUANTITY * lines)
  pub remote_orders : IsCountTo top n (r.remote_orders + MAX_QUANTITY * lines)

abbrev left : RequestedLine → Stock → ℕ
left l r = cond (nat_le (l.quantity + MIN_STOCK) r.quantity) (r.quantity - l.quantity) (r.quantity + RESTOCK - l.quantity)

pub left_in_range : (s : Sizes) (l : RequestedLine) (r : Stock) → IsRequestedLine s l → IsBetween MIN_STOCK MAX_STOCK r.quantity
    → IsBetween MIN_STOCK MAX_STOCK (left l r)
left_in_range s l r ok h =
    elim (nat_le (l.quantity + MIN_STOCK) r.quantity) as
    (λ b. nat_le (l.quantity + MIN_STOCK) r.quantity ≡ b
    → IsBetween MIN_STOCK MAX_STOCK (cond b (r.quantity - l.quantity) (r.quantity + RESTOCK - l.quantity))) [
      | true ↦ λ e. let q : l.quantity + MIN_STOCK ≤ r.quantity = grind (arith, nat_tests) in
          (omega (arith, h.0, h.1, ok.quantity.0, ok.quantity.1), omega (arith, h.0, h.1, ok.quantity.0, ok.quantity.1))
      | false ↦ λ e. let q : r.quantity + 1 ≤ l.quantity + MIN_STOCK = grind (arith, nat_tests) in
          (omega (arith, h.0, h.1, ok.quantity.0, ok.quantity.1), omega (arith, h.0, h.1, ok.quantity.0, ok.quantity.1))
    ] refl

drawn_from : (s : Sizes) (w top n lines : ℕ) (l : RequestedLine) (r : Stock) → IsRequestedLine s l → IsDrawable top n (suc lines) r → IsDrawable top n lines (drawn w l r)
drawn_from s w top n lines l r ok h = record {
  quantity = left_in_range s l r ok h.quantity;
  year_to_date = omega (arith, h.year_to_date, ok.quantity.1);
  orders = omega (arith, h.orders);
  remote_orders = elim (l.supply_warehouse == w) as (λ b. IsCountTo top n (r.remote_orders + cond b 0 1 + MAX_QUANTITY * lines))
      [ true ↦ omega (arith, h.remote_orders) | false ↦ omega (arith, h.remote_orders) ];
}

fewer : (top n lines : ℕ) (r : Stock) → IsDrawable top n (suc lines) r → IsDrawable top n lines r
fewer top n lines r h = record {
  quantity = h.quantity;
  year_to_date = omega (arith, h.year_to_date);
  orders = omega (arith, h.orders);
  remote_orders = omega (arith, h.remote_orders);
}

pub draws_rows : (s : Sizes) (w : ℕ) (ls : List RequestedLine) (m : FinMap stock_cmp Stock) → RowsAt (IsStockKey s) m
    → RowsAt (IsStockKey s) (after_draws w ls m)
draws_rows s w [] m at = at
draws_rows s w (l ∷ ls) m at =
    draws_rows s w ls (draw w m l) (updated_rows exact_stock (IsStockKey s) (λ k r. cond (is_stock l.supply_warehouse l.item k) (drawn w l r) r) m at)

pub draws_range : (s : Sizes) (w top n : ℕ) (ls : List RequestedLine) (m : FinMap stock_cmp Stock) → All (IsRequestedLine s) ls
    → EachRow (λ k r. IsDrawable top n (length ls) r) m → EachRow (λ k r. IsDrawable top n 0 r) (after_draws w ls m)
draws_range s w top n [] m ok each = each
draws_range s w top n (l ∷ ls) m ok each =
    draws_range s w top n ls (draw w m l) (All-tail (IsRequestedLine s) l ls ok)
    (each_updated exact_stock (λ k r. IsDrawable top n (suc (length ls)) r) (λ k r. IsDrawable top n (length ls) r)
    (λ k r. cond (is_stock l.supply_warehouse l.item k) (drawn w l r) r) m each
    (λ k r h. elim (is_stock l.supply_warehouse l.item k) as (λ b. IsDrawable top n (length ls) (cond b (drawn w l r) r)) [
      | true ↦ drawn_from s w top n (length ls) l r (All-head (IsRequestedLine s) l ls ok) h
      | false ↦ fewer top n (length ls) r h
    ]))

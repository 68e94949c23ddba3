-- An order's lines keep a stock's columns within what a further line may meet.
use Rattle.std.proofs.Common.{◌≡◌, ℕ, suc, ◌+◌, ◌*◌, ◌≤◌, true, false, cond, ◌==◌, List, [], ◌∷◌, length, All, Some, arith}
use Rattle.std.proofs.lemmas.List.Elements.{All-head, All-tail}
use Rattle.std.specs.FinMap.{FinMap, get}
use Rattle.tables.specs.Sizes.{Sizes}
use Rattle.tables.specs.Keys.{stock_cmp, is_stock, IsStockKey}
use Rattle.tables.specs.Maps.{EachRow}
use Rattle.tables.specs.Database.{Database}
use Rattle.tables.specs.NewOrder.{IsRequestedLine, drawn, draw, after_draws}
use Rattle.tables.specs.WellFormed.{IsWellFormed}
use Rattle.tables.specs.declared.limits.TheConstants.{MAX_COUNT, MAX_COUNT_STEP, MAX_QUANTITY, MAX_ORDER_LINES}
use Rattle.tables.specs.declared.keys.StockKey.{StockKey}
use Rattle.tables.specs.declared.rows.Stock.{Stock}
use Rattle.tables.specs.declared.new_order.RequestedLine.{RequestedLine}
use Rattle.tables.specs.declared.new_order.NewOrderInput.{NewOrderInput}
use Rattle.tables.proofs.Orders.{exact_stock}
use Rattle.tables_laws.proofs.Rows.{there, each_updated}
use Rattle.tables_laws.proofs.Draws.{left_in_range, draws_rows}
use Rattle.neworder.specs.Steps.{after_lines}
use Rattle.neworder.specs.Held.{IsStockUpTo}

-- counts that are at most a are at most b
pub up_to : (a b : ℕ) (r : Stock) → a ≤ b → IsStockUpTo a r → IsStockUpTo b r
up_to a b r below h = record {
  quantity = h.quantity;
  year_to_date = omega (arith, below, h.year_to_date);
  orders = omega (arith, below, h.orders);
  remote_orders = omega (arith, below, h.remote_orders);
}

pub drawn_up_to : (s : Sizes) (w most : ℕ) (l : RequestedLine) (r : Stock) → IsRequestedLine s l → IsStockUpTo most r
    → IsStockUpTo (most + MAX_QUANTITY) (drawn w l r)
drawn_up_to s w most l r ok h = record {
  quantity = left_in_range s l r ok h.quantity;
  year_to_date = omega (arith, h.year_to_date, ok.quantity.1);
  orders = omega (arith, h.orders);
  remote_orders = elim (l.supply_warehouse == w) as (λ b. r.remote_orders + cond b 0 1 ≤ most + MAX_QUANTITY)
      [ true ↦ omega (arith, h.remote_orders) | false ↦ omega (arith, h.remote_orders) ];
}

use Rattle.std.proofs.Common.{ℕ, ◌+◌, ◌≤◌, length, All}
use Rattle.tables.specs.Keys.{IsItemKey}
use Rattle.readset.specs.Transaction.{ReadsMore}
use Rattle.tables.specs.Keys.{district_of_order}
use Rattle.queries.specs.SoldItems.{AreItems}
use Rattle.queries.proofs.sold_items.order_items.Given as goal

-- so many lines of the order are looked at
abbrev pub invariant-loop-done : goal.invariant-loop-done
invariant-loop-done g l = record {
  sold : (first : ℕ) → first ≤ l.order.order → AreItems g.K.Start.tables (district_of_order l.order) first l.order.order 0 l.fn.transaction.reads l.fn.items.items
      → AreItems g.K.Start.tables (district_of_order l.order) first l.order.order l.done l.transaction.reads l.items.items;
  keys : All (IsItemKey g.K.Start.tables.scale) l.fn.items.items → All (IsItemKey g.K.Start.tables.scale) l.items.items;
  count : length l.items.items ≤ length l.fn.items.items + l.done;
  reads : ReadsMore l.done l.fn.transaction l.transaction;
}

use Rattle.std.proofs.Common.{◌≡◌, ◌+◌, ◌-◌, ◌*◌, ◌≤◌, length, All}
use Rattle.tables.specs.Keys.{IsItemKey}
use Rattle.tables.specs.declared.limits.TheConstants.{MAX_ORDER_LINES}
use Rattle.readset.specs.Transaction.{AtAll, ReadsMore}
use Rattle.queries.specs.SoldItems.{order_line_counts, AreItems}
use Rattle.queries.proofs.sold_items.sold_items.Given as goal

-- all orders are read, and the lines of those before this one
abbrev pub invariant-loop-order : goal.invariant-loop-order
invariant-loop-order g l = record {
  low : l.first ≤ l.order;
  high : l.order ≤ l.next;
  counted : AtAll g.K.Start.tables l.transaction (λ t. order_line_counts t l.home l.first (l.next - l.first) ≡ l.counts.items);
  sold : AreItems g.K.Start.tables l.home l.first l.order 0 l.transaction.reads l.items.items;
  keys : All (IsItemKey g.K.Start.tables.scale) l.items.items;
  count : length l.items.items ≤ (l.order - l.first) * MAX_ORDER_LINES;
  reads : ReadsMore (l.next - l.first + (l.order - l.first) * MAX_ORDER_LINES) l.fn.transaction l.transaction;
}

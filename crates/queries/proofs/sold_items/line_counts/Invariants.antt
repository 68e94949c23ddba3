use Rattle.std.proofs.Common.{◌≡◌, ◌-◌, ◌≤◌, length, All}
use Rattle.tables.specs.declared.limits.TheConstants.{MAX_ORDER_LINES}
use Rattle.readset.specs.Transaction.{AtAll, ReadsMore}
use Rattle.queries.specs.SoldItems.{order_line_counts}
use Rattle.queries.proofs.sold_items.line_counts.Given as goal

-- the orders before this one are read
abbrev pub invariant-loop-number : goal.invariant-loop-number
invariant-loop-number g l = record {
  low : l.first ≤ l.number;
  high : l.number ≤ l.next;
  counts_are : AtAll g.K.Start.tables l.transaction (λ t. order_line_counts t l.home l.first (l.number - l.first) ≡ l.counts.items);
  range : All (λ n. n ≤ MAX_ORDER_LINES) l.counts.items;
  all : length l.counts.items ≡ l.number - l.first;
  reads : ReadsMore (l.number - l.first) l.fn.transaction l.transaction;
}

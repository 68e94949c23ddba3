use Rattle.std.proofs.Common.{◌≡◌, ◌≤◌, ◌==◌, ◌&&◌, length, take}
use Rattle.std.specs.List.{filter, list_any, range_with_len}
use Rattle.tables.specs.StockLevel.{is_low}
use Rattle.readset.specs.Transaction.{AtAll, ReadsMore}
use Rattle.queries.proofs.low_stock.count_low.Given as goal

-- so many items are counted
abbrev pub invariant-loop-item : goal.invariant-loop-item
invariant-loop-item g l = record {
  counted : AtAll g.K.Start.tables l.transaction (λ t.
      length (filter (λ i. list_any (λ j. j == i) (take l.item-index l.items) && is_low t l.query.warehouse l.query.threshold i)
      (range_with_len 1 g.K.Start.tables.scale.items)) ≡ l.low);
  few : l.low ≤ l.item-index;
  reads : ReadsMore l.item-index l.fn.transaction l.transaction;
}

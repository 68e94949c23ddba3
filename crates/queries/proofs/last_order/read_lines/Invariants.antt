use Rattle.std.proofs.Common.{◌≡◌}
use Rattle.readset.specs.Transaction.{AtAll, ReadsMore}
use Rattle.queries.specs.Lines.{lines_up_to}
use Rattle.queries.proofs.last_order.read_lines.Given as goal

-- so many lines are read
abbrev pub invariant-loop-done : goal.invariant-loop-done
invariant-loop-done g l = record {
  lines : AtAll g.K.Start.tables l.transaction (λ t. lines_up_to t l.key l.done ≡ l.lines.items);
  reads : ReadsMore l.done l.fn.transaction l.transaction;
}

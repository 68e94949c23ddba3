use Rattle.std.proofs.Common.{◌-◌, pos, ◌*ℤ◌, ◌≤ℤ◌}
use Rattle.tables.specs.declared.limits.TheConstants.{MAX_LINE_AMOUNT}
use Rattle.readset.specs.Transaction.{GoesOn}
use Rattle.delivery.specs.Steps.{AreDated}
use Rattle.delivery.proofs.lines.date_lines.Given as goal

-- so many lines have their dates
abbrev pub invariant-loop-done : goal.invariant-loop-done
invariant-loop-done g l = record {
  dated : AreDated g.K.Start.tables l.delivery (l.order.district - 1) l.order.order l.done l.transaction l.sum;
  range : (pos 0 ≤ℤ l.sum) × (l.sum ≤ℤ (MAX_LINE_AMOUNT *ℤ pos l.done));
  goes_on : GoesOn l.done l.done l.fn.transaction l.transaction;
}

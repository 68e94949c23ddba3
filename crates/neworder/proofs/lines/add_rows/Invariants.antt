use Rattle.std.proofs.Common.{◌≡◌, [], take}
use Rattle.readset.specs.Transaction.{GoesOn}
use Rattle.neworder.specs.Steps.{AreTaken, with_last}
use Rattle.neworder.proofs.lines.add_rows.Given as goal

-- the lines so far have their rows
abbrev pub invariant-loop-line : goal.invariant-loop-line
invariant-loop-line g l = record {
  number : l.number ≡ l.line-index;
  added : AreTaken g.K.Start.tables l.order l.key (take l.line-index l.order.lines) []
      (with_last g.K.Start.tables l.order l.key l.transaction) [];
  goes_on : GoesOn l.line-index l.line-index l.fn.transaction l.transaction;
}

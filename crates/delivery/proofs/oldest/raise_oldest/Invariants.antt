use Rattle.std.proofs.Common.{◌≡◌}
use Rattle.readset.specs.Transaction.{GoesOn}
use Rattle.delivery.specs.Steps.{AreDone}
use Rattle.delivery.proofs.oldest.raise_oldest.Given as goal

-- OLDEST is written of so many districts
abbrev pub invariant-loop-done : goal.invariant-loop-done
invariant-loop-done g l = record {
  done : AreDone g.K.Start.tables l.delivery g.K.Start.tables.scale.districts l.done l.transaction;
  reads : l.transaction.reads ≡ l.fn.transaction.reads;
  goes_on : GoesOn 0 l.done l.fn.transaction l.transaction;
}

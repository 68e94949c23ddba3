use Rattle.std.proofs.Common.{◌≡◌, ◌+◌, ◌*◌, ◌^◌, ◌<◌, All, length}
use Rattle.std.specs.Option.{ForSome}
use Rattle.readset.specs.Transaction.{GoesOn}
use Rattle.delivery.specs.Steps.{AreDone, AreOldestRead, AreTold}
use Rattle.delivery.proofs.districts.deliver_districts.Given as goal

-- so many districts are done
abbrev pub invariant-loop-done : goal.invariant-loop-done
invariant-loop-done g l = record {
  done : AreDone g.K.Start.tables l.delivery l.done 0 l.transaction;
  told : AreTold g.K.Start.tables l.delivery l.done l.transaction l.orders.items;
  all : length l.orders.items ≡ l.done;
  range : All (λ o. ForSome o.order (λ n. n + 1 < 2 ^ 32)) l.orders.items;
  oldest : AreOldestRead g.K.Start.tables l.delivery l.done l.transaction;
  goes_on : GoesOn (19 * l.done) (18 * l.done) l.fn.transaction l.transaction;
}

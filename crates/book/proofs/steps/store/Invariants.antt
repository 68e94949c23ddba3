use Rattle.std.proofs.Common.{◌++◌, drop, map}
use Rattle.readset.specs.Writes.{as_written}
use Rattle.book.proofs.Stores.{AreStored}
use Rattle.book.proofs.steps.store.Given as goal

abbrev pub invariant-loop-record : goal.invariant-loop-record
invariant-loop-record g l = AreStored l.entry.tid l.fn.pen l.fn.reader l.entry.writes l.pen l.reader
    (drop l.record-index l.narrow ++ map as_written l.wide)

abbrev pub invariant-loop-number : goal.invariant-loop-number
invariant-loop-number g l = AreStored l.entry.tid l.fn.pen l.fn.reader l.entry.writes l.pen l.reader (map as_written (drop l.number-index l.wide))

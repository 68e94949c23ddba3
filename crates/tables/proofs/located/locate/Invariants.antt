use Rattle.tables.proofs.InTurn.{IsPast}
use Rattle.tables.proofs.located.locate.Given as goal

abbrev pub invariant-loop-table : goal.invariant-loop-table
invariant-loop-table l = IsPast l.fn.scale l.fn.number l.table-index l.place

use Rattle.std.proofs.Common.{◌≡◌}
use Rattle.tables.specs.Database.{database}
use Rattle.tables.specs.Rows.{rows}
use Rattle.encoding.specs.Held.{by_key, AreTables}
use Rattle.recover_newest.specs.Known.{known}
use Rattle.recover_newest.proofs.Putting.{put_below}
use Rattle.recover_newest.proofs.rebuilding.put_all.Given as goal

-- the records below this one are put
abbrev pub invariant-loop-number : goal.invariant-loop-number
invariant-loop-number l = record {
  tables : AreTables (database l.population) (by_key (database l.population).scale
      (put_below l.number (known l.newest) (rows (database l.population)))) (database l.tables);
  history : (database l.tables).history ≡ (database l.fn.tables).history;
}

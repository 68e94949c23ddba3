use Rattle.std.proofs.Common.{◌≡◌}
use Rattle.tables.specs.Database.{database}
use Rattle.cells.specs.Records.{held_by}
use Rattle.encoding.specs.Building.{below}
use Rattle.encoding.specs.Held.{by_key, AreTables}
use Rattle.encoding.proofs.building.put_texts.Given as goal

-- the records below this number hold their values, and the pen is as it was
abbrev pub invariant-loop-number : goal.invariant-loop-number
invariant-loop-number l = record {
  tables : AreTables (database l.population) (by_key (database l.population).scale (below l.number (held_by l.fn.pen))) (database l.tables);
  pen : l.pen ≡ l.fn.pen;
  history : (database l.tables).history ≡ (database l.fn.tables).history;
}

use Rattle.std.proofs.Common.{◌≡◌, ◌++◌, map, take, drop}
use Rattle.cells_holders.specs.Pages.{ids_of}
use Rattle.cells_holders.specs.Opening.{sights_with}
use Rattle.cells_holders.proofs.opening.tell.Given as goal

abbrev pub invariant-loop-reader : goal.invariant-loop-reader
invariant-loop-reader g l = record {
  own : l.pen.table_id ≡ l.initial.pen.table_id;
  view : l.pen.me.0 ≡ l.initial.pen.me.0;
  readers : l.reader-items ≡ map (λ s. sights_with s (ids_of g.row.N l.initial.pen.table_id) l.initial.pen.me.0.seen) (take l.reader-index l.initial.reader-items)
      ++ drop l.reader-index l.initial.reader-items;
}

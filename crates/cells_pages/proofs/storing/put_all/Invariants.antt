use Rattle.std.proofs.Common.{◌≡◌, ℕ, ◌<◌, length}
use Rattle.std.specs.Prelude.{slice_index}
use Rattle.cells_pages.specs.Views.{writing}
use Rattle.cells_pages.proofs.storing.put_all.Given as goal

abbrev pub invariant-loop-i : goal.invariant-loop-i
invariant-loop-i g l = record {
  own : l.pen.table_id ≡ l.initial.pen.table_id;
  view : l.pen.me.0 ≡ writing l.initial.pen.me.0.seen l.place l.pen.me.0.next;
  wide : length l.pen.me.0.next ≡ g.row.N;
  words : (j : ℕ) → 0 < j → j < l.i → slice_index l.pen.me.0.next j ≡ slice_index l.version j;
}

use Rattle.std.proofs.Common.{◌≡◌, ℕ, ◌<◌, length}
use Rattle.std.specs.Prelude.{slice_index}
use Rattle.cells_pages.specs.Versions.{newest}
use Rattle.cells_pages.specs.Versions.{at}
use Rattle.cells_pages.proofs.showing.held.Given as goal

abbrev pub invariant-loop-i : goal.invariant-loop-i
invariant-loop-i g l = record {
  own : l.pen.table_id ≡ l.initial.pen.table_id;
  same : l.pen.me.0 ≡ l.initial.pen.me.0;
  wide : length l.words ≡ g.row.N;
  words : (j : ℕ) → j < l.i → slice_index l.words j ≡ slice_index (newest (at l.initial.pen.me.0.seen l.place)) j;
}

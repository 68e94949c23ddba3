use Rattle.std.proofs.Common.{◌≡◌, length, take}
use Rattle.cells_pages.specs.Versions.{word_in}
use Rattle.cells_pages.specs.Views.{reading}
use Rattle.cells_pages.proofs.loading.follow_all.Given as goal

abbrev pub invariant-loop-i : goal.invariant-loop-i
invariant-loop-i g l = let v = l.initial.reader.me.0 in record {
  own : l.reader.table_id ≡ l.initial.reader.table_id;
  wide : length l.words ≡ g.row.N;
  first : word_in l.words ≡ l.first;
  view : l.reader.me.0 ≡ reading v.seen v.loads l.place v.begun (take l.i l.words);
}

use Rattle.std.proofs.Common.{◌≡◌, ◌*◌, length, take}
use Rattle.cells.specs.First.{firsts}
use Rattle.cells_pages.specs.Rule.{versions_from}
use Rattle.cells.proofs.populate.lay.Given as goal

abbrev pub invariant-loop-newest : goal.invariant-loop-newest
invariant-loop-newest l = record {
  wide : length l.laid.items ≡ l.newest-index * 8;
  versions : versions_from 8 l.newest-index l.laid.items ≡ firsts (take l.newest-index l.block);
}

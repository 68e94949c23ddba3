use Rattle.std.proofs.Common.{◌≡◌, ◌*◌, length, take}
use Rattle.cells.specs.First.{wide_firsts}
use Rattle.cells_pages.specs.Rule.{versions_from}
use Rattle.cells.proofs.wide_opening.lay_wide.Given as goal

abbrev pub invariant-loop-newest : goal.invariant-loop-newest
invariant-loop-newest l = record {
  wide : length l.laid.items ≡ l.newest-index * 64;
  versions : versions_from 64 l.newest-index l.laid.items ≡ wide_firsts (take l.newest-index l.block);
}

use Rattle.std.proofs.Common.{◌≡◌, ◌+◌, ◌<◌, ◌++◌, map, length}
use Rattle.std.specs.List.{flat_map}
use Rattle.std.specs.Vec.Iter.{into_iter_items, into_iter_len}
use Rattle.cells.specs.First.{firsts}
use Rattle.cells_holders.specs.Pages.{IsPaged}
use Rattle.cells_holders.specs.Opening.{AreFull}
use Rattle.cells.proofs.populate.open_all.Given as goal

abbrev pub invariant-loop-page : goal.invariant-loop-page
invariant-loop-page l = let left = into_iter_items l.page-iterator in record {
  count : into_iter_len l.page-iterator ≡ length left;
  cells : length l.opening.written.cells + length (flat_map (λ page. page) left) ≡ length l.fn.first;
  all : l.opening.written.all ++ firsts (flat_map (λ page. page) left) ≡ firsts l.fn.first;
  readers : l.opening.readers ≡ l.readers;
  paged : IsPaged (map length left);
  full : 0 < length left → AreFull l.opening.written.cells;
}

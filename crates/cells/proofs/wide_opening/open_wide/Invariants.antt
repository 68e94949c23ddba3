use Rattle.std.proofs.Common.{◌≡◌, ◌+◌, ◌<◌, ◌++◌, map, length}
use Rattle.std.specs.List.{flat_map}
use Rattle.std.specs.Vec.Iter.{into_iter_items, into_iter_len}
use Rattle.cells.specs.First.{wide_firsts}
use Rattle.cells_holders.specs.Pages.{IsPaged}
use Rattle.cells_holders.specs.Opening.{AreFull}
use Rattle.cells.proofs.wide_opening.open_wide.Given as goal

abbrev pub invariant-loop-page : goal.invariant-loop-page
invariant-loop-page l = let left = into_iter_items l.page-iterator in record {
  count : into_iter_len l.page-iterator ≡ length left;
  cells : length l.opening.written.cells + length (flat_map (λ page. page.items) left) ≡ length l.fn.wide;
  all : l.opening.written.all ++ wide_firsts (flat_map (λ page. page.items) left) ≡ wide_firsts l.fn.wide;
  readers : l.opening.readers ≡ l.readers;
  paged : IsPaged (map (λ page. length page.items) left);
  full : 0 < length left → AreFull l.opening.written.cells;
}

use Rattle.std.proofs.Common.{◌≡◌, ◌+◌, All, length, vec_len}
use Rattle.cells_holders.specs.Records.{PagesPen}
use Rattle.cells.specs.Records.{both_pens, seen_all}
use Rattle.cells.proofs.populate.paired.Given as goal

abbrev pub invariant-loop-reader : goal.invariant-loop-reader
invariant-loop-reader l = record {
  same : length l.narrow.items ≡ length l.wide.items;
  count : length l.readers.items + length l.narrow.items ≡ length l.fn.narrow.items;
  seen : (a b : PagesPen) → All (λ r. r ≡ seen_all a) l.fn.narrow.items → All (λ r. r ≡ seen_all b) l.fn.wide.items
      → All (λ r. r ≡ seen_all a) l.narrow.items × All (λ r. r ≡ seen_all b) l.wide.items
      × All (λ r. r ≡ seen_all (both_pens a b)) l.readers.items;
}

abbrev pub decreases-loop-reader : goal.decreases-loop-reader
decreases-loop-reader l = vec_len l.narrow

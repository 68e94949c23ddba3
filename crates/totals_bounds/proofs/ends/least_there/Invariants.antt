use Rattle.std.proofs.Common.{◌≡◌, ◌≤◌, ℕ, true}
use Rattle.cells.specs.Records.{held_by}
use Rattle.totals_bounds.specs.Ends.{is_there}
use Rattle.totals_bounds.proofs.ends.least_there.Given as goal

-- none of the numbers before has a row, and the pen is as it was
abbrev pub invariant-loop-place : goal.invariant-loop-place
invariant-loop-place l = record {
  pen : l.pen ≡ l.fn.pen;
  none : (n : ℕ) → 1 ≤ n → l.low ≤ n → n ≤ l.place → is_there (held_by l.fn.pen) l.first n ≡ true → ⊥;
}

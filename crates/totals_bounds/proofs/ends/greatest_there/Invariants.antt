use Rattle.std.proofs.Common.{◌≡◌, ◌≤◌, ◌<◌, ℕ, true}
use Rattle.cells.specs.Records.{held_by}
use Rattle.totals_bounds.specs.Ends.{is_there}
use Rattle.totals_bounds.proofs.ends.greatest_there.Given as goal

-- none of the numbers behind has a row, and the pen is as it was
abbrev pub invariant-loop-number : goal.invariant-loop-number
invariant-loop-number l = record {
  pen : l.pen ≡ l.fn.pen;
  within : l.number ≤ l.high;
  none : (n : ℕ) → n ≤ l.high → l.number < n → is_there (held_by l.fn.pen) l.first n ≡ true → ⊥;
}

abbrev pub decreases-loop-number : goal.decreases-loop-number
decreases-loop-number l = l.number

use Rattle.std.proofs.Common.{◌≡◌, ◌++◌, ℕ, List, Option, drop}
use Rattle.cells.specs.Records.{held_by}
use Rattle.totals_bounds.specs.Ends.{AreEnds, is_among}
use Rattle.totals_bounds.proofs.order_bounds.OrderBounds.follow_narrow.Given as goal

-- the bounds are right but for the records that are left, and the pen is as it was
abbrev pub invariant-loop-number : goal.invariant-loop-number
invariant-loop-number l = record {
  pen : l.pen ≡ l.fn.pen;
  scale : l.self.scale ≡ l.fn.self.scale;
  ends : (others : List (ℕ × Option (List ℕ)))
      → AreEnds l.fn.self.scale (held_by l.fn.pen) (is_among (l.values ++ others)) l.fn.self
      → AreEnds l.fn.self.scale (held_by l.fn.pen) (is_among (drop l.number-index l.values ++ others)) l.self;
}

use Rattle.std.proofs.Common.{◌≡◌}
use Rattle.totals_bounds.specs.Bounds.{no_bounds}
use Rattle.cells.specs.Records.{held_by}
use Rattle.totals_bounds.specs.Ends.{AreEnds}
use Rattle.totals_bounds.proofs.Opening.{is_outside}
use Rattle.totals_bounds.proofs.order_bounds.OrderBounds.follow_all.Given as goal

-- the bounds are right of the records before this, and the pen is as it was
abbrev pub invariant-loop-number : goal.invariant-loop-number
invariant-loop-number l = record {
  pen : l.pen ≡ l.fn.pen;
  scale : l.self.scale ≡ l.fn.self.scale;
  ends : l.fn.self ≡ no_bounds l.fn.self.scale → AreEnds l.fn.self.scale (held_by l.fn.pen) (is_outside l.first l.number) l.self;
}

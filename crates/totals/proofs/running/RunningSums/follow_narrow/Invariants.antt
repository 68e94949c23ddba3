use Rattle.std.proofs.Common.{◌≡◌, drop}
use Rattle.totals.specs.Totals.{SumsView}
use Rattle.cells.specs.Records.{held_by}
use Rattle.totals.specs.Moves.{MovesSums, order_before, moved, no_history}
use Rattle.totals.proofs.running.RunningSums.follow_narrow.Given as goal

-- the pen is as it was, and what the rest moves from here, all of it moves from the beginning
abbrev pub invariant-loop-number : goal.invariant-loop-number
invariant-loop-number l = record {
  pen : l.pen ≡ l.fn.pen;
  scale : l.self.scale ≡ l.fn.self.scale;
  rest : (v : SumsView)
      → MovesSums l.fn.self.scale (order_before l.fn.self.scale (held_by l.fn.pen))
      (moved l.fn.self.scale (held_by l.fn.pen) (drop l.number-index l.values)) no_history l.self v
      → MovesSums l.fn.self.scale (order_before l.fn.self.scale (held_by l.fn.pen)) (moved l.fn.self.scale (held_by l.fn.pen) l.values) no_history l.fn.self
      v;
}

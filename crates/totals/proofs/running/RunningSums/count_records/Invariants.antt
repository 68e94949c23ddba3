use Rattle.std.proofs.Common.{◌≡◌, ◌-◌}
use Rattle.totals.specs.Totals.{SumsView}
use Rattle.cells.specs.Records.{held_by}
use Rattle.totals.specs.Moves.{MovesSums, order_before, no_history}
use Rattle.totals.specs.Opening.{worth_from}
use Rattle.totals.proofs.running.RunningSums.count_records.Given as goal

-- the pen is as it was, and what the rest is worth from here, all of it is worth from the beginning
abbrev pub invariant-loop-number : goal.invariant-loop-number
invariant-loop-number l = record {
  pen : l.pen ≡ l.fn.pen;
  scale : l.self.scale ≡ l.fn.self.scale;
  rest : (v : SumsView)
      → MovesSums l.fn.self.scale (order_before l.fn.self.scale (held_by l.fn.pen))
      (worth_from l.fn.self.scale (held_by l.fn.pen) (l.count - l.number) l.number) no_history l.self v
      → MovesSums l.fn.self.scale (order_before l.fn.self.scale (held_by l.fn.pen)) (worth_from l.fn.self.scale (held_by l.fn.pen) l.count 0) no_history l.fn.self
      v;
}

use Rattle.std.proofs.Common.{◌≡◌, drop, List}
use Rattle.tables.specs.Maps.{sum_of}
use Rattle.tables.specs.declared.keys.OrderKey.{OrderKey}
use Rattle.std.specs.Prelude.{Option, ℕ}
use Rattle.totals.specs.Totals.{SumsView}
use Rattle.totals.specs.Moves.{MovesSums, no_record}
use Rattle.totals.proofs.running.RunningSums.count_rows.Given as goal

-- what the rest is worth from here, all of it is worth from the beginning
abbrev pub invariant-loop-row : goal.invariant-loop-row
invariant-loop-row l = record {
  scale : l.self.scale ≡ l.fn.self.scale;
  rest : (order : OrderKey → Option (List ℕ)) (v : SumsView)
      → MovesSums l.fn.self.scale order no_record (λ f. sum_of f (drop l.row-index l.rows)) l.self v
      → MovesSums l.fn.self.scale order no_record (λ f. sum_of f l.rows) l.fn.self v;
}

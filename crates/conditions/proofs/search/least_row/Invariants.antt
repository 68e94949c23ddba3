use Rattle.std.proofs.Common.{◌≡◌}
use Rattle.conditions.proofs.Searched.{IsSearched}
use Rattle.conditions.proofs.search.least_row.Given as goal

abbrev pub invariant-loop-key : goal.invariant-loop-key
invariant-loop-key g l = record {
  condition : l.condition ≡ l.initial.condition;
  searched : IsSearched g.K.Ord.cmp l.rows (g.C.RowCondition.holds_of l.initial.condition) l.key-iterator;
}

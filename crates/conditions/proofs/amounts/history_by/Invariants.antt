use Rattle.std.proofs.Common.{◌≡◌, take}
use Rattle.tables.specs.Maps.{sum_of}
use Rattle.tables.specs.declared.rows.History.{History}
use Rattle.conditions_walks.specs.Amounts.{share}
use Rattle.conditions_walks.specs.Running.{running_at, IsWithin}
use Rattle.conditions.proofs.amounts.history_by.Given as goal

abbrev pub invariant-loop-row : goal.invariant-loop-row
invariant-loop-row g l = record {
  by : l.by ≡ l.initial.by;
  sums : (k : g.row.S-Group.Denot)
      → running_at g.S.Group.Ord.cmp l.sums k ≡ sum_of (λ (r : History). share (g.S.Share.is_of l.initial.by k tt r) (g.S.Share.amount r))
      (take l.row-index l.row-items);
  within : IsWithin g.S.Group.Ord.cmp l.sums l.row-index;
}

use Rattle.std.proofs.Common.{◌≡◌, ◌-◌, ◌≤◌, ◌+ℤ◌, length}
use Rattle.std.specs.BTreeMap.{btree_map_len}
use Rattle.tables.specs.Maps.{sum_entries}
use Rattle.conditions_walks.specs.Amounts.{share}
use Rattle.conditions_walks.specs.Running.{running_at, IsWithin}
use Rattle.conditions.proofs.amounts.sums_by.Given as goal

abbrev pub invariant-loop-key : goal.invariant-loop-key
invariant-loop-key g l = record {
  by : l.by ≡ l.initial.by;
  sums : (k : g.row.S-Group.Denot)
      → running_at g.S.Group.Ord.cmp l.sums k +ℤ sum_entries
      (λ (j : g.row.K.Denot) (r : g.row.X.Denot). share (g.S.Share.is_of l.initial.by k j r) (g.S.Share.amount r)) l.key-iterator
      ≡ sum_entries (λ (j : g.row.K.Denot) (r : g.row.X.Denot). share (g.S.Share.is_of l.initial.by k j r) (g.S.Share.amount r)) l.rows.entries;
  left : length l.key-iterator ≤ btree_map_len l.rows;
  within : IsWithin g.S.Group.Ord.cmp l.sums (btree_map_len l.rows - length l.key-iterator);
}

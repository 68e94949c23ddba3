use Rattle.std.proofs.Common.{◌≡◌, ◌++◌, drop}
use Rattle.std.specs.Option.{option_to_list}
use Rattle.std.specs.Prelude.{flat_map}
use Rattle.tables.specs.Database.{database}
use Rattle.recover_files.proofs.history.add_history.Given as goal

-- HISTORY, with the rows of what is left, is the first with all rows; nothing else changes
abbrev pub invariant-loop-commit : goal.invariant-loop-commit
invariant-loop-commit l = record {
  history : l.tables.history.items ++ flat_map (λ c. option_to_list c.row) (drop l.commit-index l.commits)
      ≡ l.fn.tables.history.items ++ flat_map (λ c. option_to_list c.row) l.commits;
  others : database l.tables ≡ record (database l.fn.tables) { history = l.tables.history.items };
}

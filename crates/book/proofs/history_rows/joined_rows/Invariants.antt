use Rattle.std.proofs.Common.{◌≡◌, ◌++◌, map, take}
use Rattle.std.specs.Arc.{arc_value}
use Rattle.book.specs.History.{rows_added}
use Rattle.book.proofs.history_rows.joined_rows.Given as goal

abbrev pub invariant-loop-entry : goal.invariant-loop-entry
invariant-loop-entry l = l.joined.items ≡ l.rows ++ rows_added (map arc_value (take l.entry-index l.entries))

use Rattle.std.proofs.Common.{◌≡◌, ◌++◌, drop, map}
use Rattle.std.specs.Prelude.{flat_map}
use Rattle.std.specs.List.{filter}
use Rattle.log_text.specs.Writes.{write_text}
use Rattle.log_entries.specs.Logged.{write_at, is_behind_history}
use Rattle.log_entries.proofs.writing.put_behind.Given as goal

abbrev pub invariant-loop-number : goal.invariant-loop-number
invariant-loop-number l =
    l.out.items ++ flat_map write_text (map (write_at l.scale) (filter (is_behind_history l.scale) (drop l.number-index l.values)))
    ≡ l.fn.out.items ++ flat_map write_text (map (write_at l.scale) (filter (is_behind_history l.scale) l.values))

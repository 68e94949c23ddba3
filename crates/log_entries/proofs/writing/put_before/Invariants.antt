use Rattle.std.proofs.Common.{◌≡◌, ◌++◌, drop, map}
use Rattle.std.specs.Prelude.{flat_map}
use Rattle.std.specs.List.{filter}
use Rattle.log_text.specs.Writes.{write_text}
use Rattle.log_entries.specs.Logged.{write_at, is_before_history}
use Rattle.log_entries.proofs.writing.put_before.Given as goal

abbrev pub invariant-loop-number : goal.invariant-loop-number
invariant-loop-number l =
    l.out.items ++ flat_map write_text (map (write_at l.scale) (filter (is_before_history l.scale) (drop l.number-index l.values)))
    ≡ l.fn.out.items ++ flat_map write_text (map (write_at l.scale) (filter (is_before_history l.scale) l.values))

use Rattle.std.proofs.Common.{◌≡◌, ◌++◌, drop, map}
use Rattle.std.specs.Prelude.{flat_map}
use Rattle.log_text.specs.Writes.{write_text}
use Rattle.readset.specs.Writes.{as_written}
use Rattle.log_entries.specs.Logged.{write_at}
use Rattle.log_entries.proofs.writing.put_texts.Given as goal

abbrev pub invariant-loop-number : goal.invariant-loop-number
invariant-loop-number l =
    l.out.items ++ flat_map write_text (map (write_at l.scale) (map as_written (drop l.number-index l.texts)))
    ≡ l.fn.out.items ++ flat_map write_text (map (write_at l.scale) (map as_written l.texts))

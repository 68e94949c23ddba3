use Rattle.std.proofs.Common.{◌≡◌, ◌++◌, drop, map}
use Rattle.std.specs.Prelude.{flat_map}
use Rattle.std.specs.Arc.{arc_value}
use Rattle.log_text.specs.Entries.{entry_text}
use Rattle.book.specs.Streams.{stream}
use Rattle.log_entries.specs.Logged.{logged_entry}
use Rattle.traces.proofs.text.put_stream.Given as goal

-- what is there, and what is to come
abbrev pub invariant-loop-entry : goal.invariant-loop-entry
invariant-loop-entry l =
    l.out.items ++ flat_map entry_text (map (logged_entry l.scale) (stream l.loggers l.logger (map arc_value (drop l.entry-index l.entries))))
    ≡ l.fn.out.items ++ flat_map entry_text (map (logged_entry l.scale) (stream l.loggers l.logger (map arc_value l.entries)))

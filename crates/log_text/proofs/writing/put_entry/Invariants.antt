use Rattle.std.proofs.Common.{◌≡◌, ◌++◌, drop}
use Rattle.std.specs.Prelude.{flat_map}
use Rattle.log_text.specs.Writes.{write_text}
use Rattle.log_text.specs.Entries.{entry_text, logged}
use Rattle.log_text.proofs.writing.put_entry.Given as goal

abbrev pub invariant-loop-write : goal.invariant-loop-write
invariant-loop-write l = l.out.items ++ flat_map write_text (drop l.write-index l.entry.writes.items) ≡ l.fn.out.items ++ entry_text (logged l.entry)

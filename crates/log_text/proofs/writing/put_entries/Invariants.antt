use Rattle.std.proofs.Common.{◌≡◌, ◌++◌, drop, map}
use Rattle.std.specs.Prelude.{flat_map}
use Rattle.log_text.specs.Entries.{entry_text, logged}
use Rattle.log_text.specs.Bodies.{Entries, content_text}
use Rattle.log_text.proofs.writing.put_entries.Given as goal

abbrev pub invariant-loop-entry : goal.invariant-loop-entry
invariant-loop-entry l = l.out.items ++ flat_map entry_text (map logged (drop l.entry-index l.entries))
    ≡ l.fn.out.items ++ content_text (Entries l.mark (map logged l.entries))

use Rattle.std.proofs.Common.{◌≡◌, drop, map}
use Rattle.log_text.specs.Entries.{logged}
use Rattle.log_text.specs.Bodies.{entries_after}
use Rattle.log_text.proofs.rules.entries_after.Given as goal

abbrev pub invariant-loop-entry : goal.invariant-loop-entry
invariant-loop-entry l = entries_after l.header l.mark 0 l.fn.last (map logged l.entries)
    ≡ entries_after l.header l.mark l.number l.now (map logged (drop l.entry-index l.entries))

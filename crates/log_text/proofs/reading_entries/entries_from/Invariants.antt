use Rattle.std.proofs.Common.{◌≡◌, ◌≤◌, ◌-◌, ◌+◌, length, map}
use Rattle.log_codec.specs.Numbers.{IsBytes}
use Rattle.log_codec.specs.Read.{filled}
use Rattle.log_text.specs.Entries.{logged}
use Rattle.log_text.specs.Loops.{filled_after}
use Rattle.log_text.specs.Read.{entry_from, entries_from}
use Rattle.log_text.proofs.reading_entries.entries_from.Given as goal

-- what is read and what is to come is the whole, and each entry has taken a byte
abbrev pub invariant-entries : goal.invariant-entries
invariant-entries l = IsBytes l.rest × (length l.entries.items + length l.rest ≤ length l.fn.bytes)
    × (filled_after (map logged l.entries.items)
    (filled entry_from l.rest (length l.fn.bytes - length l.entries.items)) ≡ entries_from l.fn.bytes)

abbrev pub decreases-entries : goal.decreases-entries
decreases-entries l = length l.rest

use Rattle.std.proofs.Common.{◌≡◌, ◌≤◌, ◌-◌}
use Rattle.log_codec.specs.Read.{many}
use Rattle.log_text.specs.Loops.{many_after}
use Rattle.log_text.specs.Read.{write_from}
use Rattle.log_text.proofs.reading_entries.writes_from.Given as goal

-- what is read and what is to come is the whole
abbrev pub invariant-writes : goal.invariant-writes
invariant-writes l = (l.counter ≤ l.fn.count)
    × (many_after l.writes.items (many (l.fn.count - l.counter) write_from l.rest) ≡ many l.fn.count write_from l.fn.bytes)

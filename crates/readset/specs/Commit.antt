-- When a transaction commits with these writes and this reply.
use Rattle.std.specs.Prelude.{◌≡◌, ℕ, ◌<◌, Some, None, ◌++◌}
use Rattle.tables.specs.Database.{Database}
use Rattle.tables.specs.Apply.{Outcome, Committed, RolledBack, apply, after, HasOrderNumber}
use Rattle.tables.specs.Records.{record_count, key_of}
use Rattle.tables.specs.Rows.{rows}
use Rattle.tables.specs.declared.keys.OrderKey.{OrderKey}
use Rattle.tables.specs.declared.records.RecordKey.TheVariants as key
use Rattle.tables.specs.declared.input.Input.{Input}
use Rattle.tables.specs.declared.reply.Reply.{Reply}
use Rattle.readset.specs.Writes.{WriteSetView, value_for, rows_with, added}

-- the transaction commits, and isn't rolled back
abbrev pub IsCommitted : Outcome → Type 0
IsCommitted (Committed tables told) = Unit {0}
IsCommitted (RolledBack item) = ⊥

-- at these tables, the transaction commits with this reply, and these writes make its rows of theirs. If it makes an
-- order, its number is within the order cap
pub record IsCommitOf (t : Database) (x : Input) (writes : WriteSetView) (reply : Reply) : Type 0 where
  pub commits : apply t x ≡ Committed (after t x) reply
  pub numbered : HasOrderNumber t x
  pub rows : (n : ℕ) → n < record_count t.scale → rows (after t x) n ≡ rows_with writes (rows t) n
  pub history : (after t x).history ≡ t.history ++ added writes.history_row
  -- only NEW-ORDER rows are taken out
  pub absent : (n : ℕ) → n < record_count t.scale → value_for writes n ≡ Some None
      → (k : OrderKey) × (key_of t.scale n ≡ key.NewOrder k)

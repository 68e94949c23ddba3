-- What the transactions that a run of the commit machine decides make of the tables, where each is explained by what it
-- read (Silo, section 4.4).
use Rattle.std.specs.Prelude.{◌≡◌, ℕ, ◌+◌, ◌<◌, Some, List, [], ◌∷◌, ◌++◌, length}
use Rattle.tables.specs.Database.{Database}
use Rattle.tables.specs.Constant.{IsOf}
use Rattle.tables.specs.Inputs.{IsInput}
use Rattle.tables.specs.Records.{record_count}
use Rattle.tables.specs.Rows.{rows}
use Rattle.tables.specs.Conditions.{IsConsistent}
use Rattle.tables.specs.WellFormed.{IsWellFormed}
use Rattle.tables.specs.declared.input.Input.{Input}
use Rattle.tables.specs.declared.reply.Reply.{Reply}
use Rattle.cells.specs.declared.cells.Version.{Version}
use Rattle.readset.specs.Reads.{ReadSetView, AreWithin, held, value_of}
use Rattle.readset.specs.Writes.{WriteSetView, value_for}
use Rattle.readset.specs.Commit.{IsCommitOf}
use Rattle.readset.specs.Explains.{Agrees}
use Rattle.readset.specs.declared.work.Work.{Work}
use Rattle.commit.specs.Machine as machine
use Rattle.commit.specs.Turns.{Transaction}
use Rattle.commit.specs.declared.worker.Version as noted
use Rattle.book.specs.History.{IsLegal, replay}
use Rattle.book.specs.Stamps.{AreStamped}
use Rattle.book.specs.Book.{entry_of}
use Rattle.book.specs.declared.entry.Entry.{Entry}

-- the machine's records hold the rows of these tables
abbrev pub HoldsRows : Database → machine.Machine → Type 0
HoldsRows t m = (n : ℕ) → n < record_count t.scale → (machine.cell m n).value ≡ rows t n

-- at all consistent, well-formed tables of the population as read, the transaction has this reply and these writes
abbrev pub ExplainsWhereConsistent : Database → Input → ReadSetView → WriteSetView → Reply → Type 0
ExplainsWhereConsistent t0 x reads writes reply =
    (t : Database) → IsOf t0 t → IsWellFormed t → IsConsistent t → Agrees t reads → IsCommitOf t x writes reply

-- the machine's transaction is this work's: what the work read explains it, each value that it read is of a version
-- that the transaction has validated, and what it writes is what the transaction writes
pub record IsTransactionOf (t0 : Database) (work : Work) (transaction : Transaction) : Type 0 where
  pub input : IsInput t0.scale work.input
  pub explained : ExplainsWhereConsistent t0 work.input work.reads work.writes work.reply
  pub within : AreWithin (record_count t0.scale) work.reads
  pub reads : (n : ℕ) (v : Version) → held work.reads n ≡ Some v → (read : noted.Version)
      × (machine.note_at transaction.reads n ≡ Some read) × (read.value ≡ value_of v)
  pub writes : (n : ℕ) → machine.note_at transaction.writes n ≡ value_for work.writes n

-- the transactions are these works', one each, in the same order
abbrev pub AreTransactionsOf : Database → List Work → List Transaction → Type 0
AreTransactionsOf t0 [] [] = Unit {0}
AreTransactionsOf t0 (work ∷ works) (transaction ∷ earlier) = IsTransactionOf t0 work transaction
    × AreTransactionsOf t0 works earlier
AreTransactionsOf t0 [] (transaction ∷ earlier) = ⊥
AreTransactionsOf t0 (work ∷ works) [] = ⊥

-- the entry of a work and its transaction, which come after so many works: its number is one more, and the worker is
-- its terminal
abbrev pub entry_after : List Work → Work → Transaction → Entry
entry_after works work transaction = entry_of (length works + 1) transaction.tid transaction.worker work

-- the history of these works and their transactions: it is oldest first, and they are newest first
abbrev pub history_of : List Work → List Transaction → List Entry
history_of (work ∷ works) (transaction ∷ earlier) = history_of works earlier ++ entry_after works work transaction ∷ []
history_of _ _ = []

-- a legal history with lawful TIDs, which leads to well-formed, consistent tables, whose rows are the values of these
-- versions
pub record LeadsTo (t0 : Database) (history : List Entry) (versions : ℕ → noted.Version) : Type 0 where
  pub legal : IsLegal 0 t0 history (replay t0 history)
  pub stamped : AreStamped history
  pub well_formed : IsWellFormed (replay t0 history)
  pub consistent : IsConsistent (replay t0 history)
  pub values : (n : ℕ) → n < record_count t0.scale → rows (replay t0 history) n ≡ (versions n).value

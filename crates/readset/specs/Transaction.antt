-- A transaction under way (Silo, section 4.4): what it has read and is to write so far, and what its steps say.
use Rattle.std.specs.Prelude.{◌≡◌, ℕ, ◌+◌, ◌≤◌, ⊤, Result, Ok, Err, OnOk, IfOk, IfErr, length}
use Rattle.money.specs.declared.refusal.Refusal.{Refusal}
use Rattle.money.specs.declared.refusal.Refusal.TheVariants.{OutOfMemory, Stale}
use Rattle.tables.specs.Database.{Database}
use Rattle.tables.specs.declared.input.Input.{Input}
use Rattle.cells.specs.Records.{ReaderView, HasGrown, cell_count}
use Rattle.readset.specs.Reads.{ReadSetView, Keeps, AreWithin, AreReadOfKind, AreRead}
use Rattle.readset.specs.Writes.{WriteSetView, AreWrittenOfKind}
use Rattle.readset.specs.Explains.{IsCandidate, NoCandidate, Explains, WritesAreRead, IsWithinLimits}
use Rattle.readset.specs.Refused.{NoneMissing, IsAboveCap, IsRefusal}
use Rattle.readset.specs.declared.work.Work.{Work}

-- what contracts see of it
pub record TransactionView : Type 0 where
  pub reads : ReadSetView
  pub writes : WriteSetView

-- what its type keeps, of its reader's state at its start and now: what was read is what the reader's loads gave, of
-- records that have a cell, no record is written that wasn't read, and each is as wide as its record
pub record IsUnderWay (start now : ReaderView) (x : TransactionView) : Type 0 where
  pub read : AreRead start now x.reads
  pub grown : HasGrown start now
  pub within : AreWithin (cell_count start.cells) x.reads
  pub reads_kinds : AreReadOfKind start.cells x.reads
  pub writes_read : WritesAreRead x.writes x.reads
  pub writes_kinds : AreWrittenOfKind start.cells x.writes

-- a step that reads at most so many records more, and writes none
pub record ReadsMore (most : ℕ) (old new : TransactionView) : Type 0 where
  pub keeps : Keeps old.reads new.reads
  pub limit : length new.reads ≤ length old.reads + most
  pub writes : new.writes ≡ old.writes

-- steps that read at most so many records more, write at most so many more, and add no HISTORY row
pub record GoesOn (reads writes : ℕ) (old new : TransactionView) : Type 0 where
  pub keeps : Keeps old.reads new.reads
  pub limit : length new.reads ≤ length old.reads + reads
  pub written : length new.writes.values ≤ length old.writes.values + writes
  pub history : new.writes.history_row ≡ old.writes.history_row

-- so at all tables at which it may have read
abbrev pub AtAll : Database → TransactionView → (Database → Type 0) → Type 0
AtAll t0 x P = (t : Database) → IsCandidate t0 x.reads t → P t

-- why a step is refused: for want of memory, or since there are no such tables
abbrev pub IsStepRefusal : Database → TransactionView → Refusal → Type 0
IsStepRefusal t0 x OutOfMemory = ⊤
IsStepRefusal t0 x Stale = NoCandidate t0 x.reads
IsStepRefusal t0 x _ = ⊥

-- what a step has found is so at all such tables, or it is refused
abbrev pub Finds : {X : Type 0} → Database → TransactionView → Result X Refusal → (X → Database → Type 0) → Type 0
Finds t0 x (Ok found) P = AtAll t0 x (P found)
Finds t0 x (Err refusal) P = IsStepRefusal t0 x refusal

-- an execution of this input, from one state of its reader to another. A work is of an input of which no item is
-- missing, and of no order number above the order cap as read
pub record IsExecuted (t0 : Database) (x : Input) (old new : ReaderView) (result : Result Work Refusal) : Type 0 where
  pub input : IfOk result (λ work. work.input ≡ x)
  pub none_missing : OnOk result (NoneMissing t0 x)
  pub within_cap : IfOk result (λ work. ¬ IsAboveCap t0.scale x work.reads)
  pub read : IfOk result (λ work. AreRead old new work.reads)
  pub explains : IfOk result (λ work. Explains t0 x work.reads work.writes work.reply)
  pub limits : IfOk result (λ work. IsWithinLimits old.cells work.reads work.writes)
  pub grown : HasGrown old new
  pub refused : IfErr result (IsRefusal t0 x old new)

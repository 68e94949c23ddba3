-- What the book keeps, and what a commit does to it.
use Rattle.std.specs.Prelude.{◌≡◌, ◌≢◌, ℕ, ◌<◌, ◌⊎◌, Option, Some, List, [], ◌∷◌, ◌++◌}
use Rattle.std.specs.Ordering.{nat_cmp}
use Rattle.std.specs.List.{All}
use Rattle.std.specs.List.Sorted.{IsStrictlySortedBy}
use Rattle.std.specs.Map.{keys_of}
use Rattle.tables.specs.Database.{Database}
use Rattle.tables.specs.Inputs.{IsInput}
use Rattle.tables.specs.Records.{record_count}
use Rattle.tables.specs.Rows.{rows}
use Rattle.tables.specs.Conditions.{IsConsistent}
use Rattle.tables.specs.WellFormed.{IsWellFormed}
use Rattle.tidword.specs.TidWord.{tid_of}
use Rattle.cells.specs.Versions.{AllVersions, EndsWith, Has, last_tid, value_in}
use Rattle.cells.specs.Records.{CellsView, PenView, ReaderView, at, cell_count, words_of}
use Rattle.cells.specs.declared.cells.Version.{Version}
use Rattle.readset.specs.Reads.{ReadSetView, held}
use Rattle.readset.specs.Writes.{WriteSetView, value_for}
use Rattle.readset.specs.Explains.{Explains, IsWithinLimits}
use Rattle.readset.specs.declared.work.Work.{Work}
use Rattle.board.specs.Seats.{SeatView}
use Rattle.book.specs.History.{IsLegal, entry_versions, all_versions}
use Rattle.book.specs.Stamps.{AreStamped}
use Rattle.book.specs.declared.entry.Entry.{Entry}

-- what contracts see of the book: all versions of the records, the history, its seat of the board, and of each logger
-- how many entries of its stream were taken, and the mark of the last take. The committed tables are the history's
-- replay
pub record BookView : Type 0 where
  pub written : PenView
  pub history : List Entry
  pub seat : SeatView
  pub taken : List ℕ
  pub marks : List ℕ

-- records, history and streams are as they were
pub record IsAsBefore (old new : BookView) : Type 0 where
  pub written : new.written ≡ old.written
  pub history : new.history ≡ old.history
  pub taken : new.taken ≡ old.taken
  pub marks : new.marks ≡ old.marks

-- what is so whenever the book's lock is free, of the records' versions and the history, t0 being the tables that the
-- run began with, which so many past commits have made, and t the committed ones
pub record IsSound (past : ℕ) (t0 : Database) (written : PenView) (history : List Entry) (t : Database) : Type 0 where
  -- the committed tables are the history's serial replay, with every reply the same
  pub legal : IsLegal past t0 history t
  -- its TIDs rise by record and by terminal, and its epochs don't fall
  pub stamped : AreStamped history
  pub well_formed : IsWellFormed t
  pub consistent : IsConsistent t
  -- each record's versions are the values that it had along the history, and the last is what the tables have
  pub versions : (n : ℕ) → n < record_count t0.scale → at written.all n ≡ all_versions t0 history n
  pub latest : (n : ℕ) → n < record_count t0.scale → (v : List ℕ) → EndsWith (at written.all n) v
      → value_in v ≡ rows t n

-- each version is of its record, which has a cell, and is one that the reader has seen
pub record IsReadBy (cells : CellsView) (reader : ReaderView) (reads : ReadSetView) : Type 0 where
  pub within : (n : ℕ) (v : Version) → held reads n ≡ Some v → n < cell_count cells
  pub records : (n : ℕ) (v : Version) → held reads n ≡ Some v → v.record ≡ n
  pub seen : (n : ℕ) (v : Version) → held reads n ≡ Some v → Has (at reader.seen n) (words_of v)

-- what was read and what is to be written stand in the order of their records, and a look-up finds each
pub record AreInRecordOrder (reads : ReadSetView) (writes : WriteSetView) : Type 0 where
  pub reads_ascend : IsStrictlySortedBy nat_cmp (keys_of reads)
  pub reads_found : All (λ read. held reads read.0 ≡ Some read.1) reads
  pub writes_ascend : IsStrictlySortedBy nat_cmp (keys_of writes.values)
  pub writes_found : All (λ write. value_for writes write.0 ≡ Some write.1) writes.values

-- a transaction that this reader has executed, explained by what it read
pub record IsWorkOf (t0 : Database) (cells : CellsView) (reader : ReaderView) (work : Work) : Type 0 where
  pub input : IsInput t0.scale work.input
  pub explained : Explains t0 work.input work.reads work.writes work.reply
  pub limits : IsWithinLimits cells work.reads work.writes
  pub read : IsReadBy cells reader work.reads

-- each version read is its record's last
abbrev pub AreLatest : AllVersions → ReadSetView → Type 0
AreLatest all reads = (n : ℕ) (v : Version) → held reads n ≡ Some v → EndsWith (at all n) (words_of v)

-- a TID is that of a version read, or 0
abbrev pub IsRead : ReadSetView → ℕ → Type 0
IsRead reads tid = (tid ≡ 0) ⊎ ((n : ℕ) × (v : Version) × (held reads n ≡ Some v) × (tid ≡ tid_of v.word))

-- some version read has another TID than its record's last
abbrev pub HasConflict : AllVersions → ReadSetView → Type 0
HasConflict all reads = (n : ℕ) × (v : Version) × (held reads n ≡ Some v) × (tid_of v.word ≢ last_tid (at all n))

-- a reader has seen all versions of the records of these writes
abbrev pub HasSeen : ReaderView → PenView → WriteSetView → Type 0
HasSeen reader pen writes = (n : ℕ) (value : Option (List ℕ)) → value_for writes n ≡ Some value
    → at reader.seen n ≡ at pen.all n

-- the entry of a work that commits, with this number, TID and terminal
abbrev pub entry_of : ℕ → ℕ → ℕ → Work → Entry
entry_of number tid terminal work =
    record {
      number = number;
      tid = tid;
      terminal = terminal;
      input = work.input;
      reply = work.reply;
      writes =
          work.writes;
    }

-- a work has committed as this entry: the history has it at its end, each record that it writes has one version more,
-- and nothing more was taken
pub record Commits (old new : BookView) (entry : Entry) : Type 0 where
  pub history : new.history ≡ old.history ++ entry ∷ []
  pub taken : new.taken ≡ old.taken
  pub marks : new.marks ≡ old.marks
  pub cells : new.written.cells ≡ old.written.cells
  pub versions : (n : ℕ) → n < cell_count old.written.cells → at new.written.all n ≡ at old.written.all n
      ++ entry_versions entry n

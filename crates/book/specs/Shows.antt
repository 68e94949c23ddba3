-- What a machine of the commit protocol shows of the book, and what a commit of the book is to it (Silo, section 4.4).
use Rattle.std.specs.Prelude.{◌≡◌, ℕ, ◌<◌, List, [], length, map}
use Rattle.money.specs.declared.refusal.Refusal.{Refusal}
use Rattle.money.specs.declared.refusal.Refusal.TheVariants.{Conflict, EpochFull}
use Rattle.tidword.specs.TidWord.{tid_of}
use Rattle.commit.specs.Machine.{Machine, note_at, cell, worker}
use Rattle.commit.specs.Events.{AreEnabled, after_all}
use Rattle.commit.specs.declared.event.Event.{Event}
use Rattle.commit.specs.Sections.{Reads, Writes, section, full_section, stale_section, IsStale, WorkerHasCommitted, WorkerHasFailed}
use Rattle.commit.specs.Weaving.{MayBeWoven}
use Rattle.commit.specs.declared.worker.Cell.{Cell}
use Rattle.commit.specs.declared.worker.Phase.TheVariants.{Begun}
use Rattle.cells.specs.Versions.{EndsWith, value_in, word_in}
use Rattle.cells.specs.Records.{PenView, at, cell_count}
use Rattle.readset.specs.Reads.{ReadSetView, value_of}
use Rattle.book.specs.Stamps.{last_of}
use Rattle.book.specs.Book.{BookView}

-- what was read, as a worker of the machine has it: of each record the TID and the value of its version
abbrev pub reads_of : ReadSetView → Reads
reads_of reads = map (λ read. (read.0, record { tid = tid_of read.1.word; value = value_of read.1 })) reads

-- a version as a record of the machine has it: its TID word and its value
abbrev pub shown_cell : List ℕ → Cell
shown_cell version = record { word = word_in version; value = value_in version }

-- the machine's records are the newest versions of the cells
pub record HasNewest (m : Machine) (pen : PenView) : Type 0 where
  pub count : length m.records ≡ cell_count pen.cells
  pub newest : (n : ℕ) → n < cell_count pen.cells → (v : List ℕ) → EndsWith (at pen.all n) v
      → cell m n ≡ shown_cell v

-- a machine shows the book to a terminal that has read this, as its worker w: its records are the book's newest
-- versions, and the worker has read the same, in whatever order, has no lock yet, and took its last TID for the
-- terminal's last commit. All else of the machine may be anything
pub record Mirrors (k : BookView) (terminal epoch : ℕ) (read : ReadSetView) (m : Machine) (w : ℕ) : Type 0 where
  pub records : HasNewest m k.written
  pub present : w < length m.workers
  pub begun : (worker m w).phase ≡ Begun
  pub lockless : (worker m w).locks ≡ []
  pub reads : (r : ℕ) → note_at (worker m w).reads r ≡ note_at (reads_of read) r
  pub last : (worker m w).last ≡ last_of terminal k.history
  pub in_epoch : m.epoch ≡ epoch

-- events that a machine may do one after another, so that this holds at their end; others may do theirs between
pub record IsRunTo (m : Machine) (w : ℕ) (events : List Event) (End : Machine → Type 0) : Type 0 where
  pub enabled : AreEnabled m events
  pub ends : End (after_all m events)
  pub woven : MayBeWoven m w events

-- a commit with this TID is such a run, after which the machine has the newest versions again
abbrev pub IsCommitRun : Machine → ℕ → Reads → Writes → ℕ → PenView → Type 0
IsCommitRun m w reads writes tid pen =
    IsRunTo m w (section w reads writes) (λ end. WorkerHasCommitted m end w writes tid × HasNewest end pen)

-- one that finds no TID is a run too, in which the worker fails
abbrev pub IsFullRun : Machine → ℕ → Reads → Writes → Type 0
IsFullRun m w reads writes = IsRunTo m w (full_section w reads writes) (λ end. WorkerHasFailed m end w)

-- and so is one that isn't current, which fails at the first read that isn't
abbrev pub IsStaleRun : Machine → ℕ → Reads → Writes → Type 0
IsStaleRun m w reads writes = (first : IsStale m reads)
    × IsRunTo m w (stale_section w first.passed first.at writes) (λ end. WorkerHasFailed m end w)

-- the refusals that are runs of the machine, which has no event for the others
pub record IsFailedRun (m : Machine) (w : ℕ) (reads : Reads) (writes : Writes) (refusal : Refusal) : Type 0 where
  pub conflict : refusal ≡ Conflict → IsStaleRun m w reads writes
  pub epoch_full : refusal ≡ EpochFull → IsFullRun m w reads writes

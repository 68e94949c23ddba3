-- The machine of the commit protocol (Silo, sections 4.2 and 4.4): records with their words and values, workers, and
-- the epoch.
use Rattle.std.specs.Prelude.{◌≡◌, ℕ, ◌≤◌, ◌<◌, ◌⊎◌, ◌==◌, if◌then◌else◌, not, true, false, Option, Some}
use Rattle.std.specs.Prelude.{None, List, [], ◌∷◌, length, filter, slice_index_or}
use Rattle.tidword.specs.TidWord.{tid_of, is_locked, is_latest, epoch_of}
use Rattle.commit.specs.declared.worker.Phase.{Phase}
use Rattle.commit.specs.declared.worker.Phase.TheVariants.{Idle, Chosen, Failed}
use Rattle.commit.specs.declared.worker.Cell.{Cell}
use Rattle.commit.specs.declared.worker.Version.{Version}

-- what a list of notes by record has of record r: the first note
abbrev pub note_at : {X : Type 0} → List (ℕ × X) → ℕ → Option X
note_at [] r = None
note_at (note ∷ notes) r = if note.0 == r then Some note.1 else note_at notes r

-- the notes without those of record r
abbrev pub without : {X : Type 0} → List (ℕ × X) → ℕ → List (ℕ × X)
without notes r = filter (λ note. not (note.0 == r)) notes

-- a worker: how far it is; what it has read and has yet to validate, what it has validated, and what it has locked and
-- is to write, each in order; the epoch that it read; and the TID that it took last
pub record Worker : Type 0 where
  pub phase : Phase
  pub reads : List (ℕ × Version)
  pub validated : List (ℕ × Version)
  pub locks : List (ℕ × Option (List ℕ))
  pub epoch : ℕ
  pub last : ℕ

-- the machine: the records and the workers by number, the epoch, and how many times a worker has finished
pub record Machine : Type 0 where
  pub records : List Cell
  pub workers : List Worker
  pub epoch : ℕ
  pub finished : ℕ

-- a worker that has had no transaction, which stands where there is no worker, and a record of no value, which stands
-- where there is none
abbrev pub idle_worker : Worker
idle_worker = record { phase = Idle; reads = []; validated = []; locks = []; epoch = 0; last = 0 }

abbrev pub no_cell : Cell
no_cell = record { word = 2; value = None }

-- record r, and worker w
abbrev pub cell : Machine → ℕ → Cell
cell m r = slice_index_or m.records r no_cell

abbrev pub worker : Machine → ℕ → Worker
worker m w = slice_index_or m.workers w idle_worker

-- what a read of a record gives: its TID, locked or not, and its value
abbrev pub version_of : Cell → Version
version_of c = record { tid = tid_of c.word; value = c.value }

-- a worker that may begin: it has begun nothing yet, or what it began is over, and it holds no lock
abbrev pub IsIdle : Worker → Type 0
IsIdle x = (x.locks ≡ []) × ((x.phase ≡ Idle) ⊎ (x.phase ≡ Chosen) ⊎ (x.phase ≡ Failed))

-- where a run begins: idle workers, whatever they have read before, no lock, every record's version its latest, and no
-- TID of an epoch above the machine's
pub record IsOpening (m : Machine) : Type 0 where
  pub idle : (w : ℕ) → w < length m.workers → IsIdle (worker m w)
  pub unlocked : (r : ℕ) → r < length m.records → is_locked (cell m r).word ≡ false
  pub latest : (r : ℕ) → r < length m.records → is_latest (cell m r).word ≡ true
  pub epochs : (r : ℕ) → r < length m.records → epoch_of (cell m r).word ≤ m.epoch

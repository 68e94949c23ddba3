-- A commit that nobody acts between, as events of the machine (Silo, section 4.4): its locks, its epoch, its
-- validations, its choice, and its installs or its unlocks.
use Rattle.std.specs.Prelude.{◌≡◌, ◌≢◌, ℕ, ◌+◌, ◌<◌, true, false, max, min, Option, Some, None, List, [], ◌∷◌, ◌++◌}
use Rattle.std.specs.Prelude.{length, map}
use Rattle.std.specs.Ordering.{nat_cmp}
use Rattle.std.specs.List.{All}
use Rattle.std.specs.List.Sorted.{IsStrictlySortedBy}
use Rattle.std.specs.Map.{keys_of}
use Rattle.tidword.specs.TidWord.{tid_of, is_locked, is_latest}
use Rattle.tidword.specs.Lawful.{next}
use Rattle.commit.specs.Machine.{Machine, note_at, cell, worker}
use Rattle.commit.specs.Events.{AreEnabled, after_all, greatest_read, greatest_locked, written_cell}
use Rattle.commit.specs.declared.worker.Phase.TheVariants.{Begun, Chosen, Failed}
use Rattle.commit.specs.declared.worker.Version.{Version}
use Rattle.commit.specs.declared.event.Event.{Event}
use Rattle.commit.specs.declared.event.Event.TheVariants.{Lock, ReadEpoch, Validate, ChooseTid, Install, Unlock}

-- what a transaction has read, and what it is to write, by record number
abbrev pub Reads : Type 0
Reads = List (ℕ × Version)

abbrev pub Writes : Type 0
Writes = List (ℕ × Option (List ℕ))

-- worker w locks what it is to write, validates what it has read, installs what it has locked, and unlocks it, each
-- record after record
abbrev pub locks_of : ℕ → Writes → List Event
locks_of w writes = map (λ write. Lock w write.0 write.1) writes

abbrev pub validations_of : ℕ → Reads → List Event
validations_of w reads = map (λ read. Validate w read.0) reads

abbrev pub installs_of : ℕ → Writes → List Event
installs_of w writes = map (λ write. Install w write.0) writes

abbrev pub unlocks_of : ℕ → Writes → List Event
unlocks_of w writes = map (λ write. Unlock w write.0) writes

-- phases 1 and 2: all that is to be written is locked, the epoch is read, and these reads are validated
abbrev pub beginning : ℕ → Reads → Writes → List Event
beginning w reads writes = locks_of w writes ++ ReadEpoch w ∷ validations_of w reads

-- a commit
abbrev pub section : ℕ → Reads → Writes → List Event
section w reads writes = beginning w reads writes ++ ChooseTid w ∷ installs_of w writes

-- one that finds no TID
abbrev pub full_section : ℕ → Reads → Writes → List Event
full_section w reads writes = beginning w reads writes ++ ChooseTid w ∷ unlocks_of w writes

-- one whose validation of record r fails, after those of the reads that passed
abbrev pub stale_section : ℕ → Reads → ℕ → Writes → List Event
stale_section w passed r writes = beginning w passed writes ++ Validate w r ∷ unlocks_of w writes

-- where worker w may lock these records one after another: it reads and has no lock yet, the records ascend, and no
-- record of the machine is locked or is an older version
pub record MayLock (m : Machine) (w : ℕ) (writes : Writes) : Type 0 where
  pub present : w < length m.workers
  pub begun : (worker m w).phase ≡ Begun
  pub lockless : (worker m w).locks ≡ []
  pub ascending : IsStrictlySortedBy nat_cmp (keys_of writes)
  pub within : All (λ write. write.0 < length m.records) writes
  pub unlocked : (r : ℕ) → r < length m.records → is_locked (cell m r).word ≡ false
  pub latest : (r : ℕ) → r < length m.records → is_latest (cell m r).word ≡ true

-- worker w has read these and no others, in whatever order; they stand in ascending order of their records, by which it
-- validates them
pub record HasRead (m : Machine) (w : ℕ) (reads : Reads) : Type 0 where
  pub all : (r : ℕ) → note_at (worker m w).reads r ≡ note_at reads r
  pub ascending : IsStrictlySortedBy nat_cmp (keys_of reads)

-- each record still has the TID that was read
abbrev pub AreCurrent : Machine → Reads → Type 0
AreCurrent m reads = All (λ read. tid_of (cell m read.0).word ≡ read.1.tid) reads

-- the first read that isn't current: what passed before it, and what is left behind it
pub record IsStale (m : Machine) (reads : Reads) : Type 0 where
  pub passed : Reads
  pub rest : Reads
  pub at : ℕ
  pub version : Version
  pub split : reads ≡ passed ++ (at, version) ∷ rest
  pub current : AreCurrent m passed
  pub stale : tid_of (cell m at).word ≢ version.tid

-- the TID that worker w gets, where there is one: larger than those of all that it has read and locked and than its
-- last, in the machine's epoch
abbrev pub next_for : Machine → ℕ → Reads → Writes → Option ℕ
next_for m w reads writes = next (tid_of (max (greatest_read reads) (greatest_locked m writes)))
    (tid_of (worker m w).last) m.epoch

-- the records and the workers are as many, and the epoch and the workers other than w are as before
pub record KeepsOthers (before after : Machine) (w : ℕ) : Type 0 where
  pub records : length after.records ≡ length before.records
  pub workers : length after.workers ≡ length before.workers
  pub others : (k : ℕ) → k ≢ w → worker after k ≡ worker before k
  pub epoch : after.epoch ≡ before.epoch

-- worker w has committed these writes with this TID: each record written has its new value and its new word, unlocked,
-- and no other record differs
pub record WorkerHasCommitted (before after : Machine) (w : ℕ) (writes : Writes) (tid : ℕ) : Type 0 where
  pub cells : (r : ℕ) → cell after r ≡ written_cell (cell before r) tid (note_at writes r)
  pub chosen : (worker after w).phase ≡ Chosen
  pub lockless : (worker after w).locks ≡ []
  pub last : (worker after w).last ≡ tid
  pub finished : after.finished ≡ min (before.finished + 1) 4294967295
  pub rest : KeepsOthers before after w

-- worker w has failed and holds no lock, and every record is as before
pub record WorkerHasFailed (before after : Machine) (w : ℕ) : Type 0 where
  pub cells : (r : ℕ) → cell after r ≡ cell before r
  pub failed : (worker after w).phase ≡ Failed
  pub lockless : (worker after w).locks ≡ []
  pub last : (worker after w).last ≡ (worker before w).last
  pub finished : after.finished ≡ before.finished
  pub rest : KeepsOthers before after w

-- what worker w may do at once with its reads and these writes: commit, where every read is current and there is a TID;
-- fail, where there is none, or at the first read that isn't current
pub record AreSections (m : Machine) (w : ℕ) (writes : Writes) : Type 0 where
  pub ok : (reads : Reads) (tid : ℕ) → HasRead m w reads → AreCurrent m reads → next_for m w reads writes ≡ Some tid
      → AreEnabled m (section w reads writes) × WorkerHasCommitted m (after_all m (section w reads writes)) w writes tid
  pub full : (reads : Reads) → HasRead m w reads → AreCurrent m reads → next_for m w reads writes ≡ None
      → AreEnabled m (full_section w reads writes) × WorkerHasFailed m (after_all m (full_section w reads writes)) w
  pub stale : (reads : Reads) → HasRead m w reads → (first : IsStale m reads)
      → AreEnabled m (stale_section w first.passed first.at writes)
      × WorkerHasFailed m (after_all m (stale_section w first.passed first.at writes)) w

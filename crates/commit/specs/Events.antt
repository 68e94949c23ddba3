-- What may happen in the machine, and what it does (Silo, section 4.4).
use Rattle.std.specs.Prelude.{◌≡◌, ℕ, ◌+◌, ◌-◌, ◌<◌, ◌==◌, ◌&&◌, ◌||◌, not, max, min, Bool, true, false, Option, Some}
use Rattle.std.specs.Prelude.{None, IsSome, is_some, List, [], ◌∷◌, ◌++◌, length, slice_set, All}
use Rattle.tidword.specs.TidWord.{tid_of, is_locked, is_latest, installed_word}
use Rattle.tidword.specs.Lawful.{next}
use Rattle.commit.specs.Machine.{Machine, Worker, IsIdle, note_at, without, cell, worker, version_of}
use Rattle.commit.specs.declared.worker.Phase.{Phase}
use Rattle.commit.specs.declared.worker.Phase.TheVariants.{Begun, Entered, Chosen, Failed}
use Rattle.commit.specs.declared.worker.Cell.{Cell}
use Rattle.commit.specs.declared.worker.Version.{Version}
use Rattle.commit.specs.declared.event.Event.{Event}
use Rattle.commit.specs.declared.event.Event.TheVariants.{Begin, Read, Lock, ReadEpoch, Validate, ChooseTid, Install}
use Rattle.commit.specs.declared.event.Event.TheVariants.{Unlock, AdvanceEpoch}

-- where each event may happen
abbrev pub IsEnabled : Machine → Event → Type 0
IsEnabled m (Begin w) = (w < length m.workers) × IsIdle (worker m w)
IsEnabled m (Read w r) = (w < length m.workers) × (r < length m.records) × ((worker m w).phase ≡ Begun)
    × ((worker m w).locks ≡ []) × (note_at (worker m w).reads r ≡ None)
IsEnabled m (Lock w r value) = (w < length m.workers) × (r < length m.records) × ((worker m w).phase ≡ Begun)
    × All (λ lock. lock.0 < r) (worker m w).locks × (is_locked (cell m r).word ≡ false)
IsEnabled m (ReadEpoch w) = (w < length m.workers) × ((worker m w).phase ≡ Begun)
IsEnabled m (Validate w r) = (w < length m.workers) × ((worker m w).phase ≡ Entered)
    × IsSome (note_at (worker m w).reads r)
IsEnabled m (ChooseTid w) = (w < length m.workers) × ((worker m w).phase ≡ Entered) × ((worker m w).reads ≡ [])
IsEnabled m (Install w r) = (w < length m.workers) × ((worker m w).phase ≡ Chosen)
    × IsSome (note_at (worker m w).locks r)
IsEnabled m (Unlock w r) = (w < length m.workers) × ((worker m w).phase ≡ Failed)
    × IsSome (note_at (worker m w).locks r)
IsEnabled m AdvanceEpoch = m.epoch < 4294967295

-- another worker w, another record r
abbrev pub with_worker : Machine → ℕ → Worker → Machine
with_worker m w x = record m { workers = slice_set m.workers w x }

abbrev pub with_cell : Machine → ℕ → Cell → Machine
with_cell m r c = record m { records = slice_set m.records r c }

-- whether a read stands: the record still has the TID that was read, is the latest version, and no other worker has it
-- locked
abbrev pub still_holds : Cell → Worker → ℕ → Version → Bool
still_holds c x r v = (tid_of c.word == v.tid)
    && (is_latest c.word && (not (is_locked c.word) || is_some (note_at x.locks r)))

-- a worker that has validated this version of record r, and one whose validation failed
abbrev pub checked : Worker → ℕ → Version → Bool → Worker
checked x r v true = record x { reads = without x.reads r; validated = x.validated ++ (r, v) ∷ [] }
checked x r v false = record x { phase = Failed }

-- worker x validates what it has read of record r
abbrev pub validated_by : Worker → ℕ → Cell → Option Version → Worker
validated_by x r c (Some v) = checked x r v (still_holds c x r v)
validated_by x r c None = x

-- the greatest TID of these versions, of these locked records, and of what a worker has read and locked; 0 of none
abbrev pub greatest_read : List (ℕ × Version) → ℕ
greatest_read [] = 0
greatest_read (note ∷ notes) = max note.1.tid (greatest_read notes)

abbrev pub greatest_locked : Machine → List (ℕ × Option (List ℕ)) → ℕ
greatest_locked m [] = 0
greatest_locked m (note ∷ notes) = max (tid_of (cell m note.0).word) (greatest_locked m notes)

abbrev pub seen_by : Machine → Worker → ℕ
seen_by m x = max (greatest_read x.validated) (greatest_locked m x.locks)

-- a worker that has taken its TID, and one for which there is none
abbrev pub after_choice : Worker → Option ℕ → Worker
after_choice x (Some tid) = record x { phase = Chosen; last = tid }
after_choice x None = record x { phase = Failed }

-- the count of the workers' finishes, which stays at its greatest number, once worker x stands so: it has finished
-- where it has chosen and holds no lock
abbrev pub finished_by : ℕ → Worker → ℕ
finished_by count x = count_up x.phase x.locks
  where
    count_up : Phase → List (ℕ × Option (List ℕ)) → ℕ
    count_up Chosen [] = min (count + 1) 4294967295
    count_up _ _ = count

-- a record as its lock, its unlock and a write leave it
abbrev pub locked_cell : Cell → Cell
locked_cell c = record c { word = c.word + 1 }

abbrev pub unlocked_cell : Cell → Cell
unlocked_cell c = record c { word = c.word - 1 }

abbrev pub written_cell : Cell → ℕ → Option (Option (List ℕ)) → Cell
written_cell c tid (Some value) = record { word = installed_word tid value; value = value }
written_cell c tid None = c

-- the machine with worker w as it stands after its choice or an install, by which it may have finished
abbrev pub settled_with : Machine → ℕ → Worker → Machine
settled_with m w x = record (with_worker m w x) { finished = finished_by m.finished x }

-- what each event does; it means something where the event may happen
abbrev pub after_event : Machine → Event → Machine
after_event m (Begin w) = with_worker m w (record (worker m w) { phase = Begun; reads = [] })
after_event m (Read w r) =
    with_worker m w (record (worker m w) { reads = (worker m w).reads ++ (r, version_of (cell m r)) ∷ [] })
after_event m (Lock w r value) =
    with_cell (with_worker m w (record (worker m w) { locks = (worker m w).locks ++ (r, value) ∷ [] })) r
    (locked_cell (cell m r))
after_event m (ReadEpoch w) = with_worker m w (record (worker m w) { phase = Entered; epoch = m.epoch; validated = [] })
after_event m (Validate w r) = with_worker m w (validated_by (worker m w) r (cell m r) (note_at (worker m w).reads r))
after_event m (ChooseTid w) =
    settled_with m w (after_choice (worker m w)
    (next (tid_of (seen_by m (worker m w))) (tid_of (worker m w).last) (worker m w).epoch))
after_event m (Install w r) =
    with_cell (settled_with m w (record (worker m w) { locks = without (worker m w).locks r })) r
    (written_cell (cell m r) (worker m w).last (note_at (worker m w).locks r))
after_event m (Unlock w r) = with_cell (with_worker m w (record (worker m w) { locks = without (worker m w).locks r }))
    r (unlocked_cell (cell m r))
after_event m AdvanceEpoch = record m { epoch = m.epoch + 1 }

-- a list of events, oldest first, each of which may happen where it does, and the machine after them
abbrev pub AreEnabled : Machine → List Event → Type 0
AreEnabled m [] = Unit {0}
AreEnabled m (event ∷ events) = IsEnabled m event × AreEnabled (after_event m event) events

abbrev pub after_all : Machine → List Event → Machine
after_all m [] = m
after_all m (event ∷ events) = after_all (after_event m event) events

-- What stays true between events: of the workers and the records as functions of their numbers, so that no lemma sees their lists.
use Rattle.std.proofs.Common.{◌≡◌, ◌≢◌, ℕ, ◌%◌, ◌<◌, ◌≤◌, true, Option, Some, None, List, [], ◌∷◌}
use Rattle.tidword.specs.TidWord.{tid_of, is_locked}
use Rattle.commit.specs.Machine.{Worker, note_at, version_of}
use Rattle.commit.specs.Turns.{IsWaiting, Transaction, Place, decided}
use Rattle.commit.specs.Turns.Place.{Waiting, Decided}
use Rattle.commit.specs.Serial.{now, to_install, IsStamped}
use Rattle.commit.specs.declared.worker.Phase.{Phase}
use Rattle.commit.specs.declared.worker.Phase.TheVariants.{Begun, Entered}
use Rattle.commit.specs.declared.worker.Cell.{Cell}
use Rattle.commit.specs.declared.worker.Version.{Version}

-- these reads are of the versions that the transactions among the turns leave, and no worker that waits among them has one of the records locked
pub record AreFound (first : ℕ → Version) (ws : ℕ → Worker) (reads : List (ℕ × Version)) (turns : List Place) : Type 0 where
  pub found : (r : ℕ) (v : Version) → note_at reads r ≡ Some v → now first (decided turns) r ≡ v
  pub free : (r : ℕ) (v : Version) (k : ℕ) → note_at reads r ≡ Some v → IsWaiting k turns → note_at (ws k).locks r ≡ None

-- worker k waits in its turn, after these
pub record Waits (first : ℕ → Version) (ws : ℕ → Worker) (k e : ℕ) (turns : List Place) : Type 0 where
  pub phase : (ws k).phase ≡ Entered
  pub epoch : (ws k).epoch ≡ e
  pub once : IsWaiting k turns → ⊥
  pub validated : AreFound first ws (ws k).validated turns

-- a transaction fits its turn, after these: of what it writes, none that waits in an earlier turn has a lock, nor has read what it leaves; and its worker
-- doesn't wait in one
pub record Fits (first : ℕ → Version) (ws : ℕ → Worker) (t : Transaction) (turns : List Place) : Type 0 where
  pub reads : AreFound first ws t.reads turns
  pub stamp : IsStamped first t (decided turns)
  pub apart : (k r : ℕ) (value : Option (List ℕ)) → IsWaiting k turns → note_at t.writes r ≡ Some value → note_at (ws k).locks r ≡ None
  pub later : (k r : ℕ) (value : Option (List ℕ)) (v : Version) → IsWaiting k turns → note_at t.writes r ≡ Some value → note_at (ws k).reads r ≡ Some v
      → v.tid < t.tid
  pub over : (k : ℕ) → IsWaiting k turns → k ≢ t.worker
  pub reached : t.tid ≤ tid_of (ws t.worker).last

abbrev pub AreGood : (ℕ → Version) → (ℕ → Worker) → List Place → Type 0
AreGood first ws [] = Unit {0}
AreGood first ws (Waiting k e ∷ turns) = Waits first ws k e turns × AreGood first ws turns
AreGood first ws (Decided t ∷ turns) = Fits first ws t turns × AreGood first ws turns

-- the epochs of the turns never fall, and none is above this one
abbrev pub Falling : ℕ → List Place → Type 0
Falling epoch [] = Unit {0}
Falling epoch (Waiting k e ∷ turns) = (e ≤ epoch) × Falling e turns
Falling epoch (Decided t ∷ turns) = (t.epoch ≤ epoch) × Falling t.epoch turns

-- a version that was read is at most the record's, and is the record's where it has its TID
abbrev pub IsFresh : Version → Version → Type 0
IsFresh v u = (v.tid ≤ u.tid) × (v.tid ≡ u.tid → v ≡ u)

-- a read that may still be validated, by the phase of its worker: what an idle one has read before says nothing
abbrev pub unchecked : Phase → Option Version → Option Version
unchecked Begun read = read
unchecked Entered read = read
unchecked _ read = None

-- what a worker may still validate of record r
abbrev pub to_check : Worker → ℕ → Option Version
to_check x r = unchecked x.phase (note_at x.reads r)

-- locks are of one worker each and locked, and reads that may still be validated are fresh
pub record HaveLocks (ws : ℕ → Worker) (cs : ℕ → Cell) : Type 0 where
  pub locked : (w r : ℕ) (value : Option (List ℕ)) → note_at (ws w).locks r ≡ Some value → is_locked (cs r).word ≡ true
  pub single : (w k r : ℕ) (value other : Option (List ℕ)) → note_at (ws w).locks r ≡ Some value → note_at (ws k).locks r ≡ Some other → w ≡ k
  pub fresh : (w r : ℕ) (v : Version) → to_check (ws w) r ≡ Some v → IsFresh v (version_of (cs r))

-- whoever has read its epoch waits, and the turns are good
pub record AreOrdered (first : ℕ → Version) (ws : ℕ → Worker) (epoch : ℕ) (turns : List Place) : Type 0 where
  pub places : (w : ℕ) → (ws w).phase ≡ Entered → IsWaiting w turns
  pub good : AreGood first ws turns
  pub epochs : Falling epoch turns

-- the transactions' versions are to be installed, or are the records'
pub record AreStored (first : ℕ → Version) (ws : ℕ → Worker) (cs : ℕ → Cell) (transactions : List Transaction) : Type 0 where
  pub to_come : (w r : ℕ) (value : Option (List ℕ)) → to_install (ws w) r ≡ Some value
      → (now first transactions r ≡ record { tid = (ws w).last; value = value }) × ((version_of (cs r)).tid < (ws w).last) × ((ws w).last % 8 ≡ 0)
  pub settled : (r : ℕ) → ((w : ℕ) → to_install (ws w) r ≡ None) → now first transactions r ≡ version_of (cs r)

pub record IsSound (first : ℕ → Version) (ws : ℕ → Worker) (cs : ℕ → Cell) (epoch : ℕ) (turns : List Place) : Type 0 where
  pub locks : HaveLocks ws cs
  pub order : AreOrdered first ws epoch turns
  pub stores : AreStored first ws cs (decided turns)

-- another value at one number
pub record Changes {X : Type 0} (f g : ℕ → X) (n : ℕ) (x : X) : Type 0 where
  pub here : g n ≡ x
  pub there : (k : ℕ) → k ≢ n → g k ≡ f k

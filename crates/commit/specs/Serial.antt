-- What is true of every run: its transactions are serial in the order of their turns (Silo, section 4.4).
use Rattle.std.specs.Prelude.{◌≡◌, ℕ, ◌≤◌, ◌<◌, ◌%◌, Option, Some, None, List, [], ◌∷◌, All}
use Rattle.tidword.specs.TidWord.{epoch_of}
use Rattle.commit.specs.Machine.{Machine, Worker, note_at, cell, worker, version_of}
use Rattle.commit.specs.Turns.{Transaction, Run, IsWaiting, decided}
use Rattle.commit.specs.declared.worker.Phase.{Phase}
use Rattle.commit.specs.declared.worker.Phase.TheVariants.{Entered, Chosen}
use Rattle.commit.specs.declared.worker.Version.{Version}

-- a version, or the one that a write of this TID makes of it
abbrev pub overwritten : Version → ℕ → Option (Option (List ℕ)) → Version
overwritten v tid (Some value) = record { tid = tid; value = value }
overwritten v tid None = v

-- the version of record r after these transactions, newest first, one after another, from these first versions
abbrev pub now : (ℕ → Version) → List Transaction → ℕ → Version
now first [] r = first r
now first (t ∷ earlier) r = overwritten (now first earlier r) t.tid (note_at t.writes r)

-- serial: each transaction read the versions that the earlier ones leave
abbrev pub IsSerial : (ℕ → Version) → List Transaction → Type 0
IsSerial first [] = Unit {0}
IsSerial first (t ∷ earlier) = ((r : ℕ) (v : Version) → note_at t.reads r ≡ Some v → now first earlier r ≡ v)
    × IsSerial first earlier

-- a transaction's TID: no status bits, of its epoch, larger than those of the versions that it read and of those that
-- it replaces, and than those of its worker's earlier transactions (Silo, section 4.2)
pub record IsStamped (first : ℕ → Version) (t : Transaction) (earlier : List Transaction) : Type 0 where
  pub bits : t.tid % 8 ≡ 0
  pub in_epoch : epoch_of t.tid ≡ t.epoch
  pub above_read : (r : ℕ) (v : Version) → note_at t.reads r ≡ Some v → v.tid < t.tid
  pub above_replaced : (r : ℕ) (value : Option (List ℕ)) → note_at t.writes r ≡ Some value
      → (now first earlier r).tid < t.tid
  pub above_own : All (λ u. u.worker ≡ t.worker → u.tid < t.tid) earlier

abbrev pub HaveLawfulTids : (ℕ → Version) → List Transaction → Type 0
HaveLawfulTids first [] = Unit {0}
HaveLawfulTids first (t ∷ earlier) = IsStamped first t earlier × HaveLawfulTids first earlier

-- the epochs never fall along the order, and none is above this one
abbrev pub NeverFall : ℕ → List Transaction → Type 0
NeverFall epoch [] = Unit {0}
NeverFall epoch (t ∷ earlier) = (t.epoch ≤ epoch) × NeverFall t.epoch earlier

-- what a worker is still to install in record r: where it has chosen its TID, the value that it locked the record with
abbrev pub pending : Phase → Option (Option (List ℕ)) → Option (Option (List ℕ))
pending Chosen value = value
pending _ value = None

abbrev pub to_install : Worker → ℕ → Option (Option (List ℕ))
to_install x r = pending x.phase (note_at x.locks r)

-- the last version v of record r is the record's, where no worker is still to install one; and it is what such a worker
-- installs
pub record IsSettledRecord (m : Machine) (r : ℕ) (v : Version) : Type 0 where
  pub installed : ((w : ℕ) → to_install (worker m w) r ≡ None) → v ≡ version_of (cell m r)
  pub to_come : (w : ℕ) (value : Option (List ℕ)) → to_install (worker m w) r ≡ Some value
      → v ≡ record { tid = (worker m w).last; value = value }

-- the versions with which a run opens
abbrev pub opening_versions : Machine → ℕ → Version
opening_versions opening r = version_of (cell opening r)

-- where a run ends: its transactions are serial in the order of their turns, with lawful TIDs and epochs that never
-- fall; whoever has read its epoch and hasn't decided has a turn, so that no transaction is left out; and the records
-- are as the transactions leave them
pub record IsSerialRun (opening : Machine) (end : Run) : Type 0 where
  pub serial : IsSerial (opening_versions opening) (decided end.turns)
  pub stamped : HaveLawfulTids (opening_versions opening) (decided end.turns)
  pub epochs : NeverFall end.machine.epoch (decided end.turns)
  pub waiting : (w : ℕ) → (worker end.machine w).phase ≡ Entered → IsWaiting w end.turns
  pub settled : (r : ℕ) → IsSettledRecord end.machine r (now (opening_versions opening) (decided end.turns) r)

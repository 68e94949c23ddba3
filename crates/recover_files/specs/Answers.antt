-- What recovery may answer of strings of bytes, and when two answers say the same.
use Rattle.std.specs.Prelude.{◌≡◌, ◌≢◌, ℕ, List, map, Result, Ok, Err, IfErr, IsErrOf}
use Rattle.money.specs.declared.refusal.Refusal.{Refusal}
use Rattle.money.specs.declared.refusal.Refusal.TheVariants as refusal
use Rattle.tables.specs.Database.{Database, database}
use Rattle.log_disk.specs.Calls.{Call, OnlyReads}
use Rattle.recover_files.specs.Files.{AreDamaged, DeviceHasFailed}
use Rattle.recover_files.specs.Recovered.{IsRecovery, HasGap}
use Rattle.recover_files.specs.declared.recovering.Recovered.{Recovered}

-- an answer to what these strings hold of a database that began with these tables: what is recovered from them, that a
-- commit that counts is missing, or that they are none of its log files. An answer for want of memory, or by a device
-- that failed, says nothing of the strings; and no other refusal is an answer
abbrev pub IsAnswer : Database → ℕ → List (List ℕ) → Result Recovered Refusal → Type 0
IsAnswer t0 seed strings (Ok r) = IsRecovery t0 seed strings r
IsAnswer t0 seed strings (Err refusal.Gap) = HasGap t0.scale seed strings
IsAnswer t0 seed strings (Err refusal.Damaged) = AreDamaged t0.scale seed strings
IsAnswer t0 seed strings (Err refusal.OutOfMemory) = Unit {0}
IsAnswer t0 seed strings (Err refusal.Device) = Unit {0}
IsAnswer t0 seed strings (Err _) = ⊥

-- no device failed, and memory was enough
abbrev pub IsSureOf : Result Recovered Refusal → Type 0
IsSureOf result = IfErr result (λ r. (r ≢ refusal.Device) × (r ≢ refusal.OutOfMemory))

-- the same tables, of as many commits, up to one durable epoch
pub record AreOneRecovery (r q : Recovered) : Type 0 where
  pub tables : database r.tables ≡ database q.tables
  pub commits : r.commits ≡ q.commits
  pub durable : r.durable ≡ q.durable

-- both recovered the same, or both have the same refusal
abbrev pub IsSame : Result Recovered Refusal → Result Recovered Refusal → Type 0
IsSame (Ok r) (Ok q) = AreOneRecovery r q
IsSame (Err r) (Err q) = r ≡ q
IsSame _ _ = ⊥

-- how a call answers that recovers a database from disks, which were old and then are new: its answer is one to some
-- strings, which for modelled disks are what a read gives; it is Device where a call of one fails, and only there; and
-- what they hold stays
pub record IsAnswerOn {X : Type 0} (IsModelled : Type 0) (seen_of : X → List ℕ) (story_of : X → List Call)
    (failed_of : X → ℕ) (t0 : Database) (seed : ℕ) (old new : List X) (result : Result Recovered Refusal)
    : Type 0 where
  pub answer : (strings : List (List ℕ)) × (IsModelled → strings ≡ map seen_of old) × IsAnswer t0 seed strings result
  pub failed : IsErrOf result refusal.Device → DeviceHasFailed (map failed_of old) (map failed_of new)
  pub not_failed : (IsErrOf result refusal.Device → ⊥) → map failed_of new ≡ map failed_of old
  pub reads : OnlyReads IsModelled (map seen_of) (map story_of) old new

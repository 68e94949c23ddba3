-- The calls of a disk that change what a crash may leave on it.
use Rattle.std.specs.Prelude.{◌≡◌, ◌⊎◌, ℕ, ◌+◌, ◌-◌, ◌^◌, ◌<◌, min, Result, Ok, Err, IsErrOf}
use Rattle.std.specs.Prelude.{List, ◌∷◌, ◌++◌, length, take, drop}
use Rattle.money.specs.declared.refusal.Refusal.{Refusal}
use Rattle.money.specs.declared.refusal.Refusal.TheVariants.{Device}

-- a write of n bytes at a place, done or failed; or a sync that was done, while a read gave these bytes
pub data Call : Type 0 where
  Wrote : (at n : ℕ) → Call
  Synced : (bytes : List ℕ) → Call

-- bytes with others written over them at a place, and past the end
abbrev pub written : List ℕ → ℕ → List ℕ → List ℕ
written old at bytes = take at old ++ bytes ++ drop (at + length bytes) old

-- the calls, newest first, before a write and after it: one that failed was begun or not
abbrev pub WriteLeft : {T : Type 0} → Result T Refusal → ℕ → ℕ → List Call → List Call → Type 0
WriteLeft (Ok _) at n old new = new ≡ Wrote at n ∷ old
WriteLeft (Err _) at n old new = (new ≡ old) ⊎ (new ≡ Wrote at n ∷ old)

-- the calls before a sync and after it: one that failed counts for nothing
abbrev pub SyncLeft : {T : Type 0} → Result T Refusal → List ℕ → List Call → List Call → Type 0
SyncLeft (Ok _) seen old new = new ≡ Synced seen ∷ old
SyncLeft (Err _) seen old new = new ≡ old

-- how many calls have failed, before a call and after it: at 2^64 - 1 the count stays, and every call fails
abbrev pub Counts : {T : Type 0} → Result T Refusal → ℕ → ℕ → Type 0
Counts (Ok _) before now = (now ≡ before) × (before < 2 ^ 64 - 1)
Counts (Err refusal) before now = (refusal ≡ Device) × (now ≡ min (before + 1) (2 ^ 64 - 1))

-- one failure more is counted where the result is a refusal by `Device`, and else none
pub record CountsDevice {T : Type 0} (result : Result T Refusal) (before now : ℕ) : Type 0 where
  pub failed : IsErrOf result Device → now ≡ min (before + 1) (2 ^ 64 - 1)
  pub not_failed : (IsErrOf result Device → ⊥) → now ≡ before

-- reading leaves a disk as it was, if it is modelled: the bytes that a read gives, and the calls. Of several disks it
-- says so with the lists of theirs
pub record OnlyReads {A B C : Type 0} (IsModelled : Type 0) (seen_of : A → B) (story_of : A → C) (old new : A)
    : Type 0 where
  pub seen : IsModelled → seen_of new ≡ seen_of old
  pub story : IsModelled → story_of new ≡ story_of old

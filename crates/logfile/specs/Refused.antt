-- What a refusal leaves of a disk that it gives back.
use Rattle.std.specs.Prelude.{◌≡◌, ℕ, zero, suc, ◌+◌, ◌-◌, ◌^◌, min, List, ◌∷◌}
use Rattle.money.specs.declared.refusal.Refusal.{Refusal}
use Rattle.money.specs.declared.refusal.Refusal.TheVariants.{Device}
use Rattle.log_disk.specs.Calls.{Call, Synced}

-- the calls, newest first, after so many syncs more of a disk of which a read gives these bytes
abbrev pub after_syncs : ℕ → List ℕ → List Call → List Call
after_syncs zero seen story = story
after_syncs (suc n) seen story = after_syncs n seen (Synced seen ∷ story)

-- on a modelled disk nothing was written: it was synced, so many times or not at all
pub record IsOnlySynced {D : Type 0} (IsModelled : Type 0) (seen_of : D → List ℕ) (story_of : D → List Call) (old new : D)
    : Type 0 where
  pub seen : IsModelled → seen_of new ≡ seen_of old
  pub story : IsModelled → (n : ℕ) × (story_of new ≡ after_syncs n (seen_of old) (story_of old))

-- a refusal gives a disk back on which nothing was written, and on which one failure more is counted where it is
-- `Device`, and else none
pub record IsGivenBack {D : Type 0} (IsModelled : Type 0) (seen_of : D → List ℕ) (story_of : D → List Call)
    (failed_of : D → ℕ) (refusal : Refusal) (old new : D) : Type 0 where
  pub unwritten : IsOnlySynced IsModelled seen_of story_of old new
  pub failed : refusal ≡ Device → failed_of new ≡ min (failed_of old + 1) (2 ^ 64 - 1)
  pub not_failed : (refusal ≡ Device → ⊥) → failed_of new ≡ failed_of old

-- Disks on which nothing was written.
use Rattle.std.proofs.Common.{◌≡◌, ℕ, List, ◌∷◌}
use Rattle.log_disk.specs.Calls.{Call, Synced}
use Rattle.logfile.specs.Refused.{IsOnlySynced}

module _ {D : Type 0} {IsModelled : Type 0} {seen_of : D → List ℕ} {story_of : D → List Call} {old new : D}
    (seen : IsModelled → seen_of new ≡ seen_of old) where
  -- a sync that failed counts for nothing
  pub stays_unsynced : (IsModelled → story_of new ≡ story_of old) → IsOnlySynced IsModelled seen_of story_of old new
  stays_unsynced story = record { seen = seen; story = λ modelled. (0, story modelled) }

  -- a sync that was done
  pub is_synced : (IsModelled → story_of new ≡ Synced (seen_of old) ∷ story_of old) → IsOnlySynced IsModelled seen_of story_of old new
  is_synced story = record { seen = seen; story = λ modelled. (1, story modelled) }

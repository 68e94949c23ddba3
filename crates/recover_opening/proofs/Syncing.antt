-- Syncing disks, one after another.
use Rattle.std.proofs.Common.{◌≡◌, ◌≢◌, ℕ, ◌+◌, ◌<◌, ◌≤◌, List, length, get_or, set, refl, sym, ◌∙◌, subst, arith, below_more}
use Rattle.std.proofs.lemmas.List.{get_or-set_same, get_or-set_other, get_or_default, length-set}
use Rattle.log_disk.specs.Calls.{Call}
use Rattle.recover_opening.specs.Opening.{IsSyncedOnce, AreSynced}

-- the first n disks are synced, and the others are as they were
pub record IsSyncedSoFar {D : Type 0} (IsModelled : Type 0) (seen_of : D → List ℕ) (story_of : D → List Call)
    (failed_of : D → ℕ) (first : List D) (n : ℕ) (disks : List D) : Type 0 where
  pub count : length disks ≡ length first
  pub each : (l : ℕ) → l < n → (disk : D)
      → IsSyncedOnce IsModelled seen_of story_of failed_of (get_or first l disk) (get_or disks l disk)
  pub others : (l : ℕ) → n ≤ l → (disk : D) → get_or disks l disk ≡ get_or first l disk

module _ {D : Type 0} {IsModelled : Type 0} {seen_of : D → List ℕ} {story_of : D → List Call} {failed_of : D → ℕ}
    {first : List D} where
  pub begins : IsSyncedSoFar IsModelled seen_of story_of failed_of first 0 first
  begins = record { count = refl; each = λ l less. absurd (omega (arith, less)); others = λ l up disk. refl }

  module _ {n : ℕ} {disks : List D} (so_far : IsSyncedSoFar IsModelled seen_of story_of failed_of first n disks) where
    pub ends : length first ≤ n → AreSynced IsModelled seen_of story_of failed_of first disks
    ends over = record { count = so_far.count; each = λ l less. so_far.each l (omega (arith, less, over)) }

    -- disk n, whatever stands for those past the end, becomes now
    pub goes_on : (past now : D) → n < length disks
        → IsSyncedOnce IsModelled seen_of story_of failed_of (get_or disks n past) now
        → IsSyncedSoFar IsModelled seen_of story_of failed_of first (n + 1) (set disks n now)
    goes_on past now within synced = record {
      count = length-set disks n now ∙ so_far.count;
      each = below_more
          (λ l. (disk : D) → IsSyncedOnce IsModelled seen_of story_of failed_of (get_or first l disk) (get_or (set disks n now) l disk)) n
          (λ l less disk.
          let other : l ≢ n = (λ same. omega (arith, less, same)) in
          subst (λ (x : D). IsSyncedOnce IsModelled seen_of story_of failed_of (get_or first l disk) x)
          (sym (get_or-set_other disks n l now disk other)) (so_far.each l less disk))
          (λ disk.
          subst (λ (x : D). IsSyncedOnce IsModelled seen_of story_of failed_of x (get_or (set disks n now) n disk))
          (get_or_default disks n past disk within ∙ so_far.others n (omega arith) disk)
          (subst (λ (x : D). IsSyncedOnce IsModelled seen_of story_of failed_of (get_or disks n past) x)
          (sym (get_or-set_same disks n now disk within)) synced));
      others = λ l up disk.
          let other : l ≢ n = (λ same. omega (arith, up, same)) in
          get_or-set_other disks n l now disk other ∙ so_far.others l (omega (arith, up)) disk;
    }

-- What comes of declaring epochs void in every file.
use Rattle.std.specs.Prelude.{◌≡◌, ℕ, ◌<◌, ◌≤◌, List, length, slice_index_or, Result, Ok, Err, IsErr, OnOk}
use Rattle.money.specs.declared.refusal.Refusal.{Refusal}
use Rattle.money.specs.declared.refusal.Refusal.TheVariants.{Device}
use Rattle.log_disk.specs.Calls.{Call}
use Rattle.log_text.specs.Bodies.{Void, marked}
use Rattle.logfile.specs.Appended.{AppendsBody}
use Rattle.logfile.specs.Standing.{LogFileView}

-- a file gets a void body of these epochs, with this result
abbrev pub IsDeclared : {D T : Type 0} → Type 0 → (D → List ℕ) → (D → List Call) → (D → ℕ) → ℕ → ℕ → Result T Refusal
    → LogFileView D → LogFileView D → Type 0
IsDeclared IsModelled seen_of story_of failed_of low high result old new = AppendsBody IsModelled seen_of story_of
    failed_of (Void low high) (marked high old.last) 0 old.number result old new

abbrev pub no_failure : Result (Unit {0}) Refusal
no_failure = Ok tt

abbrev pub device_failure : Result (Unit {0}) Refusal
device_failure = Err Device

-- the files in front get it; where the result is a refusal, it is that of the next one, and those behind stand as they
-- stood
pub record AreDeclared {D T : Type 0} (IsModelled : Type 0) (seen_of : D → List ℕ) (story_of : D → List Call)
    (failed_of : D → ℕ) (low high : ℕ) (result : Result T Refusal) (old new : List (LogFileView D)) : Type 0 where
  pub count : length new ≡ length old
  pub reached : ℕ
  pub within : reached ≤ length old
  pub front : (l : ℕ) (d : LogFileView D) → l < reached → IsDeclared IsModelled seen_of story_of failed_of low high
      no_failure (slice_index_or old l d) (slice_index_or new l d)
  pub all : OnOk result (reached ≡ length old)
  pub stopped : IsErr result → (reached < length old) × ((d : LogFileView D) → IsDeclared IsModelled seen_of story_of
      failed_of low high result (slice_index_or old reached d) (slice_index_or new reached d))
  pub left : (l : ℕ) (d : LogFileView D) → reached < l → slice_index_or new l d ≡ slice_index_or old l d

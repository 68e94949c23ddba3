-- What an append does to a log file, and so a logger's turn.
use Rattle.std.specs.Prelude.{◌≡◌, ◌≢◌, ℕ, ◌+◌, ◌-◌, ◌^◌, true, false, min, List, [], ◌∷◌, ◌++◌, length}
use Rattle.std.specs.Prelude.{Result, IfErr, OnOk, IsErrOf}
use Rattle.money.specs.declared.refusal.Refusal.{Refusal}
use Rattle.money.specs.declared.refusal.Refusal.TheVariants.{OutOfMemory, Device}
use Rattle.log_disk.specs.Calls.{Call}
use Rattle.log_disk.specs.Crashes.{LeavesOnly}
use Rattle.log_text.specs.Bodies.{BodyView, body_text}
use Rattle.log_text.specs.declared.last.Last.{Last}
use Rattle.book.specs.Batches.{BatchView}
use Rattle.book.specs.Streams.{last_number}
use Rattle.log_entries.specs.Following.{behind_batch, body_of_batch}
use Rattle.logfile.specs.Called.{StoreLeft}
use Rattle.logfile.specs.Standing.{LogFileView, Stands, IsWithOrWithout}

-- a body, behind which the file stands here, with so many entries, up to the one of this commit number, is appended to
-- a file, with this result. The disk is given by whether it is modelled, what a read gives, the calls, and how many
-- have failed
pub record AppendsBody {D T : Type 0} (IsModelled : Type 0) (seen_of : D → List ℕ) (story_of : D → List Call)
    (failed_of : D → ℕ) (body : BodyView) (now : Last) (entries upto : ℕ) (result : Result T Refusal)
    (old new : LogFileView D) : Type 0 where
  pub header : new.header ≡ old.header
  -- on Ok: the device has not failed, the file stands behind the body, and its entries are counted
  pub ok : OnOk result ((old.failed ≡ false) × (new.failed ≡ false) × (new.last ≡ now)
      × (new.count ≡ old.count + entries) × (new.number ≡ upto))
  pub end : OnOk result (new.end ≡ old.end + length (body_text body ++ 0 ∷ []))
  pub none_failed : OnOk result (failed_of new.disk ≡ failed_of old.disk)
  -- on a modelled disk: the file has one body more after Ok; at each moment of the call a crash leaves it with this
  -- body or without it; and these were the calls
  pub added : IsModelled → (bodies : List BodyView)
      → Stands old.header bodies old.end old.last (seen_of old.disk) (story_of old.disk)
      → OnOk result (Stands new.header (bodies ++ body ∷ []) new.end new.last (seen_of new.disk) (story_of new.disk))
  pub moments : IsModelled → (bodies : List BodyView)
      → Stands old.header bodies old.end old.last (seen_of old.disk) (story_of old.disk)
      → LeavesOnly (IsWithOrWithout old.header bodies body) (story_of old.disk) (story_of new.disk)
  pub calls : IsModelled → StoreLeft result old.end (body_text body ++ 0 ∷ []) (seen_of old.disk) (story_of old.disk)
      (seen_of new.disk) (story_of new.disk)
  -- a refusal: for want of memory nothing has changed; by the device the file stands where it stood, for good, and
  -- there it is refused at once
  pub memory : IsErrOf result OutOfMemory → new ≡ old
  pub device : IsErrOf result Device
      → (new.failed ≡ true) × (new.end ≡ old.end) × (new.last ≡ old.last) × (new.count ≡ old.count)
      × (new.number ≡ old.number)
  pub refuses : old.failed ≡ true → IsErrOf result Device × (new ≡ old)
  pub cause : old.failed ≡ false → IsErrOf result Device
      → failed_of new.disk ≡ min (failed_of old.disk + 1) (2 ^ 64 - 1)
  pub others : IfErr result (λ refusal. (refusal ≢ OutOfMemory) → refusal ≡ Device)

-- a batch is appended so
abbrev pub Appends : {D T : Type 0} → Type 0 → (D → List ℕ) → (D → List Call) → (D → ℕ) → BatchView → Result T Refusal
    → LogFileView D → LogFileView D → Type 0
Appends IsModelled seen_of story_of failed_of batch result old new = AppendsBody IsModelled seen_of story_of failed_of
    (body_of_batch batch) (behind_batch old.last batch) (length batch.entries) (last_number old.number batch.entries)
    result old new

-- How recovery is refused.
use Rattle.std.proofs.Common.{◌≡◌, ◌⊎◌, ◌++◌, ℕ, List, map, Option, refl, sym, subst, Err}
use Rattle.std.specs.Io.KnownBytes.{Appends}
use Rattle.std.proofs.KnownBytes.{Appends-nil}
use Rattle.money.specs.declared.refusal.Refusal.{Refusal}
use Rattle.money.specs.declared.refusal.Refusal.TheVariants as refusal
use Rattle.tables.specs.Database.{Database}
use Rattle.log_disk.specs.Calls.{Call}
use Rattle.recover_files.specs.Answers.{IsAnswerOn}
use Rattle.recover_files.specs.Recovered.{IsRecovery}
use Rattle.recover_files.specs.declared.recovering.Recovered.{Recovered}
use Rattle.program_recovery.specs.Told.{IsRefused, memory, device, damaged, gap, begun}

-- what is known of the strings that were read: where the disks are modelled, they are those
abbrev pub SomeStrings : Type 0 → List (List ℕ) → (List (List ℕ) → Type 0) → Type 0
SomeStrings Modelled seen P = (strings : List (List ℕ)) × (Modelled → strings ≡ seen) × P strings

-- before anything was recovered
module _ {X : Type 0} {M : Type 0} {seen : X → List ℕ} {story : X → List Call} {failed : X → ℕ} {t0 : Database} {seed : ℕ} {old new : List X}
    (Tells : Recovered → List ℕ → Type 0) (w : Option (List ℕ)) where
  pub unrecovered : (e : Refusal) → IsAnswerOn M seen story failed t0 seed old new (Err e)
      → SomeStrings M (map seen old) (λ strings. IsRefused t0 seed strings Tells (map failed old) (map failed new) w w e)
  unrecovered refusal.OutOfMemory on = (on.answer.0, on.answer.1, memory refl (on.not_failed (λ h. cc)) (Appends-nil w))
  unrecovered refusal.Device on = (on.answer.0, on.answer.1, device refl (on.failed refl) (Appends-nil w))
  unrecovered refusal.Damaged on = (on.answer.0, on.answer.1, damaged refl on.answer.2 (on.not_failed (λ h. cc)) (Appends-nil w))
  unrecovered refusal.Gap on = (on.answer.0, on.answer.1, gap refl on.answer.2 (on.not_failed (λ h. cc)) (Appends-nil w))
  unrecovered _ on = absurd on.answer.2

-- once it was recovered, and a front of its text was written
pub untold : {M : Type 0} (seen : List (List ℕ)) (t0 : Database) (seed : ℕ) (Tells : Recovered → List ℕ → Type 0) (text : List ℕ) (r : Recovered)
    (before now : List ℕ) (old new : Option (List ℕ)) (e : Refusal) → SomeStrings M seen (λ strings. IsRecovery t0 seed strings r) → Tells r text
    → now ≡ before
    → (front : List ℕ) × (rest : List ℕ) × (front ++ rest ≡ text) × Appends old new front × ((e ≡ refusal.OutOfMemory) ⊎ (e ≡ refusal.Device))
    → SomeStrings M seen (λ strings. IsRefused t0 seed strings Tells before now old new e)
untold seen t0 seed Tells text r before now old new e known tells none_failed failed = (
  known.0,
  known.1,
  begun r failed.0 failed.1 known.2 (subst (Tells r) (sym failed.2) tells) failed.3 none_failed failed.4,
)

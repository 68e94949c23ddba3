-- What was told of a recovery.
use Rattle.std.specs.Prelude.{◌≡◌, ◌⊎◌, ◌++◌, ℕ, List, [], Option}
use Rattle.std.specs.Io.KnownBytes.{Appends}
use Rattle.money.specs.declared.refusal.Refusal.{Refusal}
use Rattle.money.specs.declared.refusal.Refusal.TheVariants.{OutOfMemory, Device, Damaged, Gap}
use Rattle.tables.specs.Database.{Database, database}
use Rattle.conditions.specs.Report.{IsReportOf}
use Rattle.conditions.specs.declared.report.Report.{Report}
use Rattle.program_script_text.specs.Report.{report_text}
use Rattle.recover_files.specs.Files.{AreDamaged, DeviceHasFailed}
use Rattle.recover_files.specs.Recovered.{IsRecovery, HasGap}
use Rattle.recover_files.specs.declared.recovering.Recovered.{Recovered}
use Rattle.program_recovery.specs.Text.{recovery_text}

-- this was recovered from these strings of bytes, and its text was written
pub record IsShown (t0 : Database) (seed : ℕ) (strings : List (List ℕ)) (old new : Option (List ℕ)) (r : Recovered)
    : Type 0 where
  pub recovery : IsRecovery t0 seed strings r
  pub wrote : Appends old new (recovery_text r)

-- this report is that of the tables recovered from these strings of bytes, and its text was written
pub record IsChecked (t0 : Database) (seed : ℕ) (strings : List (List ℕ)) (old new : Option (List ℕ)) (report : Report)
    : Type 0 where
  pub recovered : Recovered
  pub recovery : IsRecovery t0 seed strings recovered
  pub exact : IsReportOf (database recovered.tables) report
  pub wrote : Appends old new (report_text recovered.commits report)

-- a text that tells what was recovered, or the report of it
abbrev pub Shows : Recovered → List ℕ → Type 0
Shows r text = text ≡ recovery_text r

abbrev pub Reports : Recovered → List ℕ → Type 0
Reports r text = (report : Report) × IsReportOf (database r.tables) report × (text ≡ report_text r.commits report)

-- it was refused, and the disks had so many failures before and have so many now. Nothing was recovered, and nothing
-- written: for want of memory, where a disk failed, where the strings are no log files of the database, or where a
-- commit is missing. Or a beginning of the text of what was recovered was written, and no disk failed: for want of
-- memory, or where the writer failed
pub data IsRefused (t0 : Database) (seed : ℕ) (strings : List (List ℕ)) (Tells : Recovered → List ℕ → Type 0)
    (before now : List ℕ) (old new : Option (List ℕ)) (refusal : Refusal) : Type 0 where
  memory : refusal ≡ OutOfMemory → now ≡ before → Appends old new []
      → IsRefused t0 seed strings Tells before now old new refusal
  device : refusal ≡ Device → DeviceHasFailed before now → Appends old new []
      → IsRefused t0 seed strings Tells before now old new refusal
  damaged : refusal ≡ Damaged → AreDamaged t0.scale seed strings → now ≡ before → Appends old new []
      → IsRefused t0 seed strings Tells before now old new refusal
  gap : refusal ≡ Gap → HasGap t0.scale seed strings → now ≡ before → Appends old new []
      → IsRefused t0 seed strings Tells before now old new refusal
  begun : (r : Recovered) (front rest : List ℕ) → IsRecovery t0 seed strings r → Tells r (front ++ rest)
      → Appends old new front → now ≡ before → (refusal ≡ OutOfMemory) ⊎ (refusal ≡ Device)
      → IsRefused t0 seed strings Tells before now old new refusal

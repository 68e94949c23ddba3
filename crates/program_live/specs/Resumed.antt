-- What comes of a run that goes on from its log files.
use Rattle.std.specs.Prelude.{◌≡◌, ◌⊎◌, ◌++◌, ◌≤◌, ℕ, List, [], Option, None, codes, IfSome}
use Rattle.std.specs.Fmt.{decimal}
use Rattle.std.specs.Io.KnownBytes.{Appends}
use Rattle.money.specs.declared.refusal.Refusal.{Refusal}
use Rattle.money.specs.declared.refusal.Refusal.TheVariants.{OutOfMemory, Device, Damaged, Gap, EpochFull}
use Rattle.tables.specs.Database.{Database}
use Rattle.conditions.specs.declared.report.Report.{Report}
use Rattle.book.specs.Parts.{first_of}
use Rattle.book.specs.declared.parts.Parts.{Parts}
use Rattle.recover_restart.specs.Restarting.{GoesOnFrom}
use Rattle.program_options.specs.declared.asked.RunOptions.{RunOptions}
use Rattle.program_run.specs.Told.{IsRan, IsBroken, IsShortBy}
use Rattle.program_run.specs.declared.driving.Driven.{Driven}
use Rattle.program_files.specs.Causes.{CauseView}
use Rattle.program_files.specs.Logs.{AreUnready, HasBroken, IsWhy}
use Rattle.program_live.specs.Live.{IsShort}
use Rattle.program_files.specs.declared.fault.Purpose.TheVariants.{Append}

-- the line that is written first: so many commits were recovered, and the run commits in this epoch and later ones
abbrev pub resumed_line : ℕ → ℕ → List ℕ
resumed_line commits epoch = codes "resumed " ++ (decimal commits ++ (codes " epoch " ++ (decimal epoch ++ codes "\n")))

-- some bytes of the files are gone on from, with these parts
abbrev pub IsResumedWith : RunOptions → Database → ℕ → Parts → ℕ → ℕ → Type 0
IsResumedWith r t0 seed parts commits epoch =
    (strings : List (List ℕ)) × GoesOnFrom t0 seed r.files.loggers r.terminals strings parts commits epoch

-- a run has gone on from its log files: what they recover to was told, and then all inputs ran from there on, and what
-- came of them was told
pub record IsResumedRun (r : RunOptions) (t0 : Database) (seed : ℕ) (old new : Option (List ℕ)) (report : Report)
    : Type 0 where
  pub parts : Parts
  pub commits : ℕ
  pub epoch : ℕ
  pub resumed : IsResumedWith r t0 seed parts commits epoch
  pub between : Option (List ℕ)
  pub told : Appends old between (resumed_line commits epoch)
  pub ran : IsRan commits (first_of parts) r.terminals r.count between new report

-- and each commit was acknowledged
abbrev pub IsResumedDurably : RunOptions → Database → ℕ → Option (List ℕ) → Option (List ℕ) → Report → Type 0
IsResumedDurably r t0 seed old new report =
    (run : IsResumedRun r t0 seed old new report) × (run.ran.counts.commits ≤ run.ran.counts.acknowledged)

-- the same of a run that may have fallen short: each commit was acknowledged, unless something fell short
pub record IsDrivenFurther (r : RunOptions) (t0 : Database) (seed : ℕ) (old new : Option (List ℕ)) (driven : Driven)
    : Type 0 where
  pub run : IsResumedRun r t0 seed old new driven.report
  pub acknowledged : driven.shortfall ≡ None → run.ran.counts.commits ≤ run.ran.counts.acknowledged
  pub short : IfSome driven.shortfall (λ shortfall. IsShortBy run.ran.counts shortfall.refusal shortfall.lost)

-- it was refused: its files couldn't be opened; they couldn't be gone on with; the first line wasn't written whole; it was
-- broken off for want of memory, or a device failed; or it was told whole, and a logger had stopped, or commits aren't
-- durable
pub data IsUnfinishedResumedRun (r : RunOptions) (t0 : Database) (seed : ℕ) (old new : Option (List ℕ))
    (refusal : Refusal) (known : Option CauseView) : Type 0 where
  unready : AreUnready Append r.files refusal known → Appends old new []
      → IsUnfinishedResumedRun r t0 seed old new refusal known
  refused : (refusal ≡ OutOfMemory) ⊎ (refusal ≡ Device) ⊎ (refusal ≡ Gap) ⊎ (refusal ≡ EpochFull) ⊎ (refusal ≡ Damaged)
      → IfSome known (IsWhy Append r.files t0.scale seed refusal) → Appends old new []
      → IsUnfinishedResumedRun r t0 seed old new refusal known
  untold : (parts : Parts) (commits epoch : ℕ) (front rest : List ℕ) → IsResumedWith r t0 seed parts commits epoch
      → front ++ rest ≡ resumed_line commits epoch → Appends old new front
      → (refusal ≡ OutOfMemory) ⊎ (refusal ≡ Device) → IsUnfinishedResumedRun r t0 seed old new refusal known
  broken : (parts : Parts) (commits epoch : ℕ) (between : Option (List ℕ)) → IsResumedWith r t0 seed parts commits epoch
      → Appends old between (resumed_line commits epoch)
      → IsBroken commits (first_of parts) r.terminals r.count between new refusal
      → IfSome known (HasBroken Append r.files refusal) → IsUnfinishedResumedRun r t0 seed old new refusal known
  short : (report : Report) (lost : ℕ) (run : IsResumedRun r t0 seed old new report)
      → IsShortBy run.ran.counts refusal lost → IfSome known (IsShort Append r.files refusal lost)
      → IsUnfinishedResumedRun r t0 seed old new refusal known

-- What comes of a run on new log files that was refused, and why commits of a run aren't durable.
use Rattle.std.specs.Prelude.{◌≡◌, ◌<◌, ℕ, List, [], Option, IfSome}
use Rattle.std.specs.Io.KnownBytes.{Appends}
use Rattle.money.specs.declared.refusal.Refusal.{Refusal}
use Rattle.money.specs.declared.refusal.Refusal.TheVariants.{OutOfMemory, EpochFull}
use Rattle.tables.specs.Database.{Database}
use Rattle.conditions.specs.declared.report.Report.{Report}
use Rattle.program_options.specs.declared.asked.LogFiles.{LogFiles}
use Rattle.program_options.specs.declared.asked.RunOptions.{RunOptions}
use Rattle.program_run.specs.Told.{IsRan, IsBroken, IsShortBy}
use Rattle.program_files.specs.Causes.{CauseView, InLastEpoch, Unlogged}
use Rattle.program_files.specs.Logs.{AreUnready, HasBroken, path_of}
use Rattle.program_files.specs.declared.fault.Purpose.{Purpose}
use Rattle.program_files.specs.declared.fault.Purpose.TheVariants.{Create}

-- why so many commits of a run aren't durable: a device failed, and this log file is on it; or its logger had no memory
-- for its last batch; or they are of the last epoch, behind which the first file can have no mark
pub data IsShort (purpose : Purpose) (files : LogFiles) (refusal : Refusal) (lost : ℕ) (cause : CauseView) : Type 0 where
  broken : HasBroken purpose files refusal cause → IsShort purpose files refusal lost cause
  unlogged : (logger : ℕ) → refusal ≡ OutOfMemory → logger < files.loggers
      → cause ≡ Unlogged (path_of files logger) lost → IsShort purpose files refusal lost cause
  in_last_epoch : refusal ≡ EpochFull → cause ≡ InLastEpoch (path_of files 0) lost
      → IsShort purpose files refusal lost cause

-- a run was refused: its files couldn't be made; it was broken off for want of memory, or a device failed; or it was told
-- whole, and a logger had stopped, or commits aren't durable. Which file it was is told, where memory is there for that
pub data IsUnfinishedRun (r : RunOptions) (t0 : Database) (old new : Option (List ℕ)) (refusal : Refusal)
    (known : Option CauseView) : Type 0 where
  unmade : AreUnready Create r.files refusal known → Appends old new [] → IsUnfinishedRun r t0 old new refusal known
  broken : IsBroken 0 t0 r.terminals r.count old new refusal → IfSome known (HasBroken Create r.files refusal)
      → IsUnfinishedRun r t0 old new refusal known
  short : (report : Report) (lost : ℕ) (ran : IsRan 0 t0 r.terminals r.count old new report)
      → IsShortBy ran.counts refusal lost → IfSome known (IsShort Create r.files refusal lost)
      → IsUnfinishedRun r t0 old new refusal known

-- What is to be told of a run that was refused.
use Rattle.std.specs.Prelude.{ℕ, List, Option, IfSome}
use Rattle.tables.specs.Database.{Database}
use Rattle.program_options.specs.declared.asked.RunOptions.{RunOptions}
use Rattle.program_run.specs.Told.{refusal_in}
use Rattle.program_files.specs.Causes.{CauseView, cause_of}
use Rattle.program_files.specs.Logs.{HasBroken, IsWhy}
use Rattle.program_live.specs.Live.{IsUnfinishedRun}
use Rattle.program_live.specs.Resumed.{IsUnfinishedResumedRun}
use Rattle.program_files.specs.declared.fault.Purpose.TheVariants.{Append, Create}
use Rattle.program_live.specs.declared.live.Halt.{Halt}
use Rattle.program_live.specs.declared.live.Halt.TheVariants as halt
use Rattle.program_live.specs.declared.resuming.Break.{Break}
use Rattle.program_live.specs.declared.resuming.Break.TheVariants.{Restart, Telling, Run}

-- with a cause of this kind, if one is known, it is an unfinished resumed run
abbrev pub IsToldAsUnfinished : RunOptions → Database → ℕ → Option (List ℕ) → Option (List ℕ) → Break → Type 0
IsToldAsUnfinished r t0 seed old new (Restart refusal) = (known : Option CauseView)
    → IfSome known (IsWhy Append r.files t0.scale seed refusal) → IsUnfinishedResumedRun r t0 seed old new refusal known
IsToldAsUnfinished r t0 seed old new (Telling refusal) =
    (known : Option CauseView) → IsUnfinishedResumedRun r t0 seed old new refusal known
IsToldAsUnfinished r t0 seed old new (Run refusal) = (known : Option CauseView)
    → IfSome known (HasBroken Append r.files refusal) → IsUnfinishedResumedRun r t0 seed old new refusal known

-- of a run on new log files, so it is of its start; of the run itself, with a cause of this kind, if one is known
abbrev pub IsToldAsHalted : RunOptions → Database → Option (List ℕ) → Option (List ℕ) → Halt → Type 0
IsToldAsHalted r t0 old new (halt.Start fault) = IsUnfinishedRun r t0 old new fault.refusal (cause_of fault)
IsToldAsHalted r t0 old new (halt.Run broken) = (known : Option CauseView)
    → IfSome known (HasBroken Create r.files (refusal_in broken)) → IsUnfinishedRun r t0 old new (refusal_in broken) known

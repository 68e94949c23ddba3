use Rattle.std.proofs.Common.{◌≡◌, ◌<◌, ℕ, Option, Some, None, IfSome, refl, subst, sym}
use Rattle.std.specs.Prelude.{option_map}
use Rattle.money.specs.declared.refusal.Refusal.{Refusal}
use Rattle.money.specs.declared.refusal.Refusal.TheVariants.{EpochFull, OutOfMemory}
use Rattle.program_options.specs.declared.asked.LogFiles.{LogFiles}
use Rattle.program_files.specs.Causes.{cause_view, InLastEpoch, Unlogged}
use Rattle.program_files.specs.Logs.{path_of}
use Rattle.program_live.specs.Live.{IsShort, in_last_epoch, unlogged}
use Rattle.program_files.specs.declared.fault.Cause.{Cause}
use Rattle.program_files.specs.declared.fault.Purpose.{Purpose}
use Rattle.program_live.proofs.ended.fell_short.Goals as goal

short_of_memory : (purpose : Purpose) (files : LogFiles) (logger lost : ℕ) (found : Option Cause)
    → IfSome found (λ cause. (logger < files.loggers) × (cause_view cause ≡ Unlogged (path_of files logger) lost))
    → IfSome (option_map cause_view found) (IsShort purpose files OutOfMemory lost)
short_of_memory purpose files logger lost None is = tt
short_of_memory purpose files logger lost (Some cause) is = unlogged logger refl is.0 is.1

short_of_epochs : (purpose : Purpose) (files : LogFiles) (lost : ℕ) (found : Option Cause)
    → IfSome found (λ cause. cause_view cause ≡ InLastEpoch (path_of files 0) lost)
    → IfSome (option_map cause_view found) (IsShort purpose files EpochFull lost)
short_of_epochs purpose files lost None is = tt
short_of_epochs purpose files lost (Some cause) is = in_last_epoch refl is

pub returns-in-OutOfMemory-clause-cause : goal.returns-in-OutOfMemory-clause-cause
returns-in-OutOfMemory-clause-cause c =
    let found = c.unlogged.result in
    subst (λ (refusal : Refusal). IfSome (option_map cause_view found) (IsShort c.args.purpose c.args.files.now refusal c.args.shortfall.lost)) (sym c.in-OutOfMemory.is)
    (short_of_memory c.args.purpose c.args.files.now c.args.shortfall.logger c.args.shortfall.lost found c.unlogged.ensures)

pub returns-in-EpochFull-clause-cause : goal.returns-in-EpochFull-clause-cause
returns-in-EpochFull-clause-cause c =
    let found = c.in_last_epoch.result in
    subst (λ (refusal : Refusal). IfSome (option_map cause_view found) (IsShort c.args.purpose c.args.files.now refusal c.args.shortfall.lost)) (sym c.in-EpochFull.is)
    (short_of_epochs c.args.purpose c.args.files.now c.args.shortfall.lost found c.in_last_epoch.ensures)

use Rattle.std.proofs.Common.{ap, subst, sym, IfSome}
use Rattle.money.specs.declared.refusal.Refusal.{Refusal}
use Rattle.tables.specs.Sizes.{Sizes}
use Rattle.program_live.specs.Breaks.{IsToldAsUnfinished}
use Rattle.program_files.specs.Causes.{cause_of}
use Rattle.program_files.specs.Logs.{IsWhy}
use Rattle.program_live.specs.Resumed.{IsUnfinishedResumedRun}
use Rattle.program_files.specs.declared.fault.Fault.{Fault}
use Rattle.program_files.specs.declared.fault.Purpose.TheVariants.{Append}
use Rattle.program_live.specs.declared.resuming.Break.{Break}
use Rattle.program_live.proofs.resuming.fault_of.Goals as goal

pub returns-in-Restart : goal.returns-in-Restart
returns-in-Restart c = λ t0 old new same told.
    let fault = c.unresumed.result in
    let options = c.args.options.now in
    let tell = subst (λ (b : Break). IsToldAsUnfinished options t0 c.args.seed old new b) c.in-Restart.is told in
    let why = subst (λ (s : Sizes). IfSome (cause_of fault) (IsWhy Append options.files s c.args.seed c.in-Restart.refusal)) (sym same) c.unresumed.ensures.cause in
    subst (λ (refusal : Refusal). IsUnfinishedResumedRun options t0 c.args.seed old new refusal (cause_of fault)) (sym c.unresumed.ensures.refusal)
    (tell (cause_of fault) why)

pub returns-in-Telling : goal.returns-in-Telling
returns-in-Telling c = λ t0 old new same told.
    let fault = c.of.result in
    let options = c.args.options.now in
    let tell = subst (λ (b : Break). IsToldAsUnfinished options t0 c.args.seed old new b) c.in-Telling.is told in
    subst (λ (refusal : Refusal). IsUnfinishedResumedRun options t0 c.args.seed old new refusal (cause_of fault))
    (sym (ap (λ (f : Fault). f.refusal) c.of.ensures)) (tell (cause_of fault))

pub returns-in-Run : goal.returns-in-Run
returns-in-Run c = λ t0 old new same told.
    let fault = c.broken_off.result in
    let options = c.args.options.now in
    let tell = subst (λ (b : Break). IsToldAsUnfinished options t0 c.args.seed old new b) c.in-Run.is told in
    subst (λ (refusal : Refusal). IsUnfinishedResumedRun options t0 c.args.seed old new refusal (cause_of fault)) (sym c.broken_off.ensures.refusal)
    (tell (cause_of fault) c.broken_off.ensures.cause)

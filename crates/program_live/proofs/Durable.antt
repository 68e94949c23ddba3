-- What a run ends with that was told whole.
use Rattle.std.proofs.Common.{◌≡◌, ℕ, List, Option, Some, None, Result, Ok, Err, IfOk, IfErr, IfSome, subst, sym}
use Rattle.money.specs.declared.refusal.Refusal.{Refusal}
use Rattle.tables.specs.Database.{Database}
use Rattle.conditions.specs.declared.report.Report.{Report}
use Rattle.program_options.specs.declared.asked.RunOptions.{RunOptions}
use Rattle.program_run.specs.Told.{IsDriven, IsRanDurably, IsShortBy}
use Rattle.program_run.specs.declared.driving.Driven.{Driven}
use Rattle.program_run.specs.declared.shortfall.Shortfall.{Shortfall}
use Rattle.program_files.specs.Causes.{cause_of}
use Rattle.program_live.specs.Live.{IsShort, IsUnfinishedRun}
use Rattle.program_live.specs.Live as live
use Rattle.program_live.specs.Resumed.{IsDrivenFurther, IsResumedDurably, IsUnfinishedResumedRun}
use Rattle.program_live.specs.Resumed as resumed
use Rattle.program_files.specs.declared.fault.Fault.{Fault}
use Rattle.program_files.specs.declared.fault.Purpose.{Purpose}
use Rattle.program_files.specs.declared.fault.Purpose.TheVariants.{Append, Create}

-- what `ended` says of its answer
abbrev Whole : Driven → Result Report Fault → Type 0
Whole driven result = IfOk result (λ report. (report ≡ driven.report) × (driven.shortfall ≡ None))

abbrev Short : Purpose → RunOptions → Driven → Result Report Fault → Type 0
Short purpose r driven result = IfErr result (λ fault. (shortfall : Shortfall) × (driven.shortfall ≡ Some shortfall)
    × (fault.refusal ≡ shortfall.refusal) × IfSome (cause_of fault) (IsShort purpose r.files fault.refusal shortfall.lost))

short_by : (P : Refusal → ℕ → Type 0) (driven : Driven) → IfSome driven.shortfall (λ s. P s.refusal s.lost) → (shortfall : Shortfall)
    → driven.shortfall ≡ Some shortfall → (refusal : Refusal) → refusal ≡ shortfall.refusal → P refusal shortfall.lost
short_by P driven short shortfall some refusal is = subst (λ (it : Refusal). P it shortfall.lost) (sym is)
    (subst (λ (found : Option Shortfall). IfSome found (λ s. P s.refusal s.lost)) some short)

pub ran_durably : {past : ℕ} {t0 : Database} {terminals inputs : ℕ} {old new : Option (List ℕ)} (driven : Driven)
    → IsDriven past t0 terminals inputs old new driven → (result : Result Report Fault) → Whole driven result
    → IfOk result (IsRanDurably past t0 terminals inputs old new)
ran_durably {past} {t0} {terminals} {inputs} {old} {new} driven d (Ok report) is =
    subst (λ (r : Report). IsRanDurably past t0 terminals inputs old new r) (sym is.0) (d.ran, d.acknowledged is.1)
ran_durably driven d (Err fault) is = tt

pub ran_short : (r : RunOptions) {t0 : Database} {old new : Option (List ℕ)} (driven : Driven)
    → IsDriven 0 t0 r.terminals r.count old new driven → (result : Result Report Fault) → Short Create r driven result
    → IfErr result (λ fault. IsUnfinishedRun r t0 old new fault.refusal (cause_of fault))
ran_short r driven d (Ok report) is = tt
ran_short r driven d (Err fault) is = live.short driven.report is.0.lost d.ran (short_by (IsShortBy d.ran.counts) driven d.short is.0 is.1 fault.refusal is.2) is.3

pub resumed_durably : {r : RunOptions} {t0 : Database} {seed : ℕ} {old new : Option (List ℕ)} (driven : Driven)
    → IsDrivenFurther r t0 seed old new driven → (result : Result Report Fault) → Whole driven result
    → IfOk result (IsResumedDurably r t0 seed old new)
resumed_durably {r} {t0} {seed} {old} {new} driven d (Ok report) is =
    subst (λ (told : Report). IsResumedDurably r t0 seed old new told) (sym is.0) (d.run, d.acknowledged is.1)
resumed_durably driven d (Err fault) is = tt

pub resumed_short : {r : RunOptions} {t0 : Database} {seed : ℕ} {old new : Option (List ℕ)} (driven : Driven)
    → IsDrivenFurther r t0 seed old new driven → (result : Result Report Fault) → Short Append r driven result
    → IfErr result (λ fault. IsUnfinishedResumedRun r t0 seed old new fault.refusal (cause_of fault))
resumed_short driven d (Ok report) is = tt
resumed_short driven d (Err fault) is = resumed.short driven.report is.0.lost d.run
    (short_by (IsShortBy d.run.ran.counts) driven d.short is.0 is.1 fault.refusal is.2) is.3

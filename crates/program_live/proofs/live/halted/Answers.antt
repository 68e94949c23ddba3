use Rattle.std.proofs.Common.{◌≡◌, ◌∙◌, IfSome, List, ℕ, Option, subst, sym}
use Rattle.money.specs.declared.refusal.Refusal.{Refusal}
use Rattle.tables.specs.Database.{Database}
use Rattle.program_options.specs.declared.asked.RunOptions.{RunOptions}
use Rattle.program_run.specs.Told.{refusal_in}
use Rattle.program_run.specs.declared.driving.Broken.{Broken}
use Rattle.program_live.specs.Breaks.{IsToldAsHalted}
use Rattle.program_files.specs.Causes.{CauseView, cause_of}
use Rattle.program_files.specs.Logs.{HasBroken}
use Rattle.program_live.specs.Live.{IsUnfinishedRun}
use Rattle.program_files.specs.declared.fault.Fault.{Fault}
use Rattle.program_files.specs.declared.fault.Purpose.TheVariants.{Create}
use Rattle.program_live.specs.declared.live.Halt.{Halt}
use Rattle.program_live.proofs.live.halted.Goals as goal

pub returns-in-Start : goal.returns-in-Start
returns-in-Start g c = λ t0 old new told. subst (λ (h : Halt). IsToldAsHalted c.args.options.now t0 old new h) c.in-Start.is told

-- the fault of a run that was broken off, where its cause is known
broken_run : (r : RunOptions) (t0 : Database) (old new : Option (List ℕ)) (broken : Broken) (fault : Fault) (told : Refusal) → told ≡ refusal_in broken
    → fault.refusal ≡ told → IfSome (cause_of fault) (HasBroken Create r.files told)
    → ((known : Option CauseView) → IfSome known (HasBroken Create r.files (refusal_in broken)) → IsUnfinishedRun r t0 old new (refusal_in broken) known)
    → IsUnfinishedRun r t0 old new fault.refusal (cause_of fault)
broken_run r t0 old new broken fault told is same cause tell =
    subst (λ (refusal : Refusal). IsUnfinishedRun r t0 old new refusal (cause_of fault)) (sym (same ∙ is))
    (tell (cause_of fault) (subst (λ (refusal : Refusal). IfSome (cause_of fault) (HasBroken Create r.files refusal)) is cause))

pub returns-in-Unrun : goal.returns-in-Unrun
returns-in-Unrun g c = λ t0 old new told.
    broken_run c.args.options.now t0 old new c.in-Run.broken c.broken_off-fault.result c.from.result c.from.ensures c.broken_off-fault.ensures.refusal
    c.broken_off-fault.ensures.cause (subst (λ (h : Halt). IsToldAsHalted c.args.options.now t0 old new h) c.in-Run.is told)

pub returns-in_default : goal.returns-in_default
returns-in_default g c = λ t0 old new told.
    broken_run c.args.options.now t0 old new c.in-Run.broken c.broken_off-fault.result c.from.result c.from.ensures c.broken_off-fault.ensures.refusal
    c.broken_off-fault.ensures.cause (subst (λ (h : Halt). IsToldAsHalted c.args.options.now t0 old new h) c.in-Run.is told)

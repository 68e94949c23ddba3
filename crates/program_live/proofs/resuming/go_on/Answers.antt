use Rattle.std.proofs.Common.{ℕ, refl, subst, sym}
use Rattle.std.proofs.KnownBytes.{Appends-nil}
use Rattle.population.specs.Initial.{initial, seed_of}
use Rattle.program_live.specs.Breaks.{IsToldAsUnfinished}
use Rattle.program_files.specs.declared.fault.Fault.{Fault}
use Rattle.program_files.specs.Causes.{cause_of}
use Rattle.program_files.specs.Logs.{memory}
use Rattle.program_live.specs.Resumed.{IsUnfinishedResumedRun, unready}
use Rattle.program_live.proofs.Durable.{resumed_durably, resumed_short}
use Rattle.program_live.proofs.NoMemory.{passed_on}
use Rattle.program_live.proofs.resuming.go_on.Goals as goal

pub returns-in-Err-clause-failed : goal.returns-in-Err-clause-failed
returns-in-Err-clause-failed g c = unready c.in-Err.ensures.unready (Appends-nil (g.W.Write.contents c.args.output.now))

pub returns-in_err-alarms-clause-failed : goal.returns-in_err-alarms-clause-failed
returns-in_err-alarms-clause-failed g c =
    let w = g.W.Write.contents c.args.output.now in
    passed_on _ _ c.from_residual.result
    (λ fault is. subst (λ (made : Fault). IsUnfinishedResumedRun c.args.options.now (initial c.args.population) (seed_of c.args.population) w w
    made.refusal (cause_of made)) (sym is)
    (unready (memory refl refl) (Appends-nil w)))
    c.from_residual.ensures

pub returns-in_err-guarded-clause-failed : goal.returns-in_err-guarded-clause-failed
returns-in_err-guarded-clause-failed g c =
    let w = g.W.Write.contents c.args.output.now in
    passed_on _ _ c.from_residual-in_err-guarded.result
    (λ fault is. subst (λ (made : Fault). IsUnfinishedResumedRun c.args.options.now (initial c.args.population) (seed_of c.args.population) w w
    made.refusal (cause_of made)) (sym is)
    (unready (memory refl refl) (Appends-nil w)))
    c.from_residual-in_err-guarded.ensures

pub returns-in-Ok-run_restarted-clause-ran : goal.returns-in-Ok-run_restarted-clause-ran
returns-in-Ok-run_restarted-clause-ran g c =
    resumed_durably c.in-Ok-run_restarted.driven c.in-Ok-run_restarted.ensures.ran c.ended.result c.ended.ensures.whole

pub returns-in-Ok-run_restarted-clause-failed : goal.returns-in-Ok-run_restarted-clause-failed
returns-in-Ok-run_restarted-clause-failed g c =
    resumed_short c.in-Ok-run_restarted.driven c.in-Ok-run_restarted.ensures.ran c.ended.result c.ended.ensures.short

pub returns-clause-failed : goal.returns-clause-failed
returns-clause-failed g c =
    let t0 = initial c.args.population in
    let options = c.args.options.now in
    let old = g.W.Write.contents c.args.output.now in
    let new = g.W.Write.contents c.run_restarted.new.output in
    let fault = c.fault_of.result in
    let told = subst (λ (seed : ℕ). IsToldAsUnfinished options t0 seed old new c.in-Err-run_restarted.broken) (sym c.seed-seed.ensures)
    c.in-Err-run_restarted.ensures.broken in
    subst (λ (seed : ℕ). IsUnfinishedResumedRun options t0 seed old new fault.refusal (cause_of fault)) c.seed-seed.ensures
    (c.fault_of.ensures t0 old new (sym c.scale-scale.ensures) told)

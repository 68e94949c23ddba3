use Rattle.std.proofs.Common.{refl, subst, sym}
use Rattle.std.proofs.KnownBytes.{Appends-nil}
use Rattle.population.specs.Initial.{initial}
use Rattle.program_files.specs.declared.fault.Fault.{Fault}
use Rattle.program_files.specs.Causes.{cause_of}
use Rattle.program_files.specs.Logs.{memory}
use Rattle.program_live.specs.Live.{IsUnfinishedRun, unmade}
use Rattle.program_live.proofs.Durable.{ran_durably, ran_short}
use Rattle.program_live.proofs.NoMemory.{passed_on}
use Rattle.program_live.proofs.live.run_anew.Goals as goal

pub returns-in_err-waits-clause-failed : goal.returns-in_err-waits-clause-failed
returns-in_err-waits-clause-failed g c =
    let w = g.W.Write.contents c.args.output.now in
    passed_on _ _ c.from_residual.result
    (λ fault is. subst (λ (made : Fault). IsUnfinishedRun c.args.options.now (initial c.args.population) w w made.refusal (cause_of made)) (sym is)
    (unmade (memory refl refl) (Appends-nil w)))
    c.from_residual.ensures

pub returns-in_err-alarms-clause-failed : goal.returns-in_err-alarms-clause-failed
returns-in_err-alarms-clause-failed g c =
    let w = g.W.Write.contents c.args.output.now in
    passed_on _ _ c.from_residual-in_err-alarms.result
    (λ fault is. subst (λ (made : Fault). IsUnfinishedRun c.args.options.now (initial c.args.population) w w made.refusal (cause_of made)) (sym is)
    (unmade (memory refl refl) (Appends-nil w)))
    c.from_residual-in_err-alarms.ensures

pub returns-in-Err-clause-failed : goal.returns-in-Err-clause-failed
returns-in-Err-clause-failed g c = unmade c.in-Err.ensures.unready (Appends-nil (g.W.Write.contents c.args.output.now))

pub returns-in-Ok-run_on-clause-ran : goal.returns-in-Ok-run_on-clause-ran
returns-in-Ok-run_on-clause-ran g c = ran_durably c.in-Ok-run_on.driven c.in-Ok-run_on.ensures.ran c.ended.result c.ended.ensures.whole

pub returns-in-Ok-run_on-clause-failed : goal.returns-in-Ok-run_on-clause-failed
returns-in-Ok-run_on-clause-failed g c = ran_short c.args.options.now c.in-Ok-run_on.driven c.in-Ok-run_on.ensures.ran c.ended.result c.ended.ensures.short

pub returns-clause-failed : goal.returns-clause-failed
returns-clause-failed g c = c.halted.ensures (initial c.args.population) (g.W.Write.contents c.args.output.now)
    (g.W.Write.contents c.run_on.new.output) c.in-Err-run_on.ensures.halted

use Rattle.std.proofs.Common.{IfOk, subst}
use Rattle.book.specs.Parts.{first_of, past_of}
use Rattle.program_run.specs.Told.{IsDriven}
use Rattle.program_run.specs.declared.driving.RunPlan.{RunPlan}
use Rattle.program_live.proofs.resuming.drive_restarted.Goals as goal

pub returns-clause-ran : goal.returns-clause-ran
returns-clause-ran g c =
    let parts = c.args.restarted.parts in
    subst (λ (plan : RunPlan). IfOk c.drive.result (IsDriven (past_of parts) (first_of parts) plan.terminals plan.inputs
    (g.W.Write.contents c.args.output.now) (g.W.Write.contents c.drive.new.writer))) c.plan_of.ensures c.drive.ensures.ran

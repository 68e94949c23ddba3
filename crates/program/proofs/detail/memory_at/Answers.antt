use Rattle.std.proofs.Common.{◌∙◌, ap}
use Rattle.std.proofs.lemmas.Result.{IfOk-weaker}
use Rattle.program.specs.Memory.{memory_line}
use Rattle.program.proofs.detail.memory_at.Goals as goal

pub returns-in-Ok : goal.returns-in-Ok
returns-in-Ok c = IfOk-weaker c.memory_line.result _ _ (λ line is lawful. is ∙ ap (memory_line c.args.options.now.subcommand) c.in-Ok.ensures.limits.0)
    c.memory_line.ensures

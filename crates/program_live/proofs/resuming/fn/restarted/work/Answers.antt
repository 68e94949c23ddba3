use Rattle.program_live.proofs.Resumed.{IfOk-pair}
use Rattle.program_live.proofs.resuming.fn.restarted.work.Goals as goal

pub returns : goal.returns
returns g c = (
  IfOk-pair _ _ _ (λ r goes stand. ((goes.0, goes.2), stand)) c.restart.result c.restart.ensures.goes_on c.restart.ensures.stand,
  c.restart.ensures.others,
)

use Rattle.std.proofs.Common.{inr}
use Rattle.std.proofs.lemmas.Result.{IfOk-weaker}
use Rattle.recover_files.proofs.reading.both.Goals as goal

pub returns-in-Ok-Ok-clause-files : goal.returns-in-Ok-Ok-clause-files
returns-in-Ok-Ok-clause-files c = IfOk-weaker c.joined.result _ _
    (λ files is. (c.in-Ok-Ok.front, c.in-Ok-Ok.back, c.in-Ok-Ok.is-0, c.in-Ok-Ok.is-1, is.0, is.1, is.2)) c.joined.ensures.files

pub returns-in-Ok-Ok-clause-damaged : goal.returns-in-Ok-Ok-clause-damaged
returns-in-Ok-Ok-clause-damaged c = λ e. inr (inr (
  c.in-Ok-Ok.front,
  c.in-Ok-Ok.back,
  c.in-Ok-Ok.is-0,
  c.in-Ok-Ok.is-1,
  c.joined.ensures.damaged e,
))

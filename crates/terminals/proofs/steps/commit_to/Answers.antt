use Rattle.terminals.proofs.Telling.{cited_last}
use Rattle.terminals.proofs.steps.commit_to.Goals as goal

pub returns-in-Ok-clause-cited : goal.returns-in-Ok-clause-cited
returns-in-Ok-clause-cited g c = cited_last c.in-Ok.ensures.committed g.K.Run.run.annals c.cite.result c.cite.ensures.pass

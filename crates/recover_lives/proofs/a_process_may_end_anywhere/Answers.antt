use Rattle.recover_lives.proofs.Ends.{after_stop}
use Rattle.recover_lives.proofs.a_process_may_end_anywhere.Goals as goal

pub returns-clause-running : goal.returns-clause-running
returns-clause-running c = λ o life past earlier now. tt

pub returns-clause-restarting : goal.returns-clause-restarting
returns-clause-restarting c = λ o old durable top files steps history released. tt

pub returns-clause-leaves : goal.returns-clause-leaves
returns-clause-leaves c = after_stop

use Rattle.std.proofs.Common.{rules}
use Rattle.recover_restart.proofs.restarting.restart.Goals as goal

pub returns-in-Err-clause-damaged : goal.returns-in-Err-clause-damaged
returns-in-Err-clause-damaged g c = λ modelled e. c.in-Err.ensures.damaged modelled (search (rules, e))

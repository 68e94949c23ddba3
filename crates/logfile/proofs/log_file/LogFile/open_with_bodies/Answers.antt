use Rattle.std.proofs.Common.{rules}
use Rattle.logfile.proofs.log_file.LogFile.open_with_bodies.Goals as goal

pub returns-in-Err-clause-damaged : goal.returns-in-Err-clause-damaged
returns-in-Err-clause-damaged g c = λ modelled e h bodies today is.
    c.in-Err.ensures.damaged modelled (search (rules, e)) h bodies today is

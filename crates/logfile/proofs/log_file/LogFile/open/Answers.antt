use Rattle.std.proofs.Common.{rules}
use Rattle.logfile.proofs.log_file.LogFile.open.Goals as goal

pub returns-in_err-file-clause-damaged : goal.returns-in_err-file-clause-damaged
returns-in_err-file-clause-damaged g c = λ modelled e h bodies today is.
    c.in_err-file.ensures.damaged modelled (search (rules, e)) h bodies today is

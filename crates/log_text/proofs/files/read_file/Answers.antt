use Rattle.std.proofs.Common.{rules}
use Rattle.log_text.proofs.files.read_file.Goals as goal

pub returns-in_err-header-clause-damaged : goal.returns-in_err-header-clause-damaged
returns-in_err-header-clause-damaged c = λ e h bodies is. c.in_err-header.ensures.damaged (search (rules, e)) h bodies is

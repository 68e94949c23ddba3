use Rattle.log_codec.proofs.NumberTexts.{number_at-number, number-number_at}
use Rattle.log_codec.proofs.laws.numbers_are_read_as_written.Goals as goal

pub returns-clause-written : goal.returns-clause-written
returns-clause-written c = number_at-number

pub returns-clause-read : goal.returns-clause-read
returns-clause-read c width n bytes rest is e = number-number_at width bytes (n, rest) is e

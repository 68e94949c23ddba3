use Rattle.std.proofs.Common.{arith}
use Rattle.tests_tables.proofs.Payments.{left_of_data}
use Rattle.tests_tables.proofs.payment_tests.bad_credit_has_the_text.Goals as goal

pub returns : goal.returns
returns c = λ t plain. left_of_data t plain 10 ((omega arith, omega arith), (omega arith, omega arith), (omega arith, omega arith))

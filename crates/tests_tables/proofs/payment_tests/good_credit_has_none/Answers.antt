use Rattle.std.proofs.Common.{arith}
use Rattle.tests_tables.proofs.Payments.{left_of_data}
use Rattle.tests_tables.proofs.payment_tests.good_credit_has_none.Goals as goal

pub returns : goal.returns
returns c = λ t plain. left_of_data t plain 3 ((omega arith, omega arith), (omega arith, omega arith), (omega arith, omega arith))

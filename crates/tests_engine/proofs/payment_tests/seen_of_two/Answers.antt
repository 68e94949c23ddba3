use Rattle.std.proofs.Common.{arith}
use Rattle.tests_engine.proofs.payment_tests.seen_of_two.Goals as goal

pub pay_twice-requires-clause-warehouse : goal.pay_twice-requires-clause-warehouse
pay_twice-requires-clause-warehouse g c = c.in_ok-stage.ensures.first 0 (omega (arith, c.in_ok-stage.ensures.count))

pub pay_twice-requires-clause-district : goal.pay_twice-requires-clause-district
pay_twice-requires-clause-district g c = c.in_ok-stage.ensures.first 1 (omega (arith, c.in_ok-stage.ensures.count))

pub pay_twice-requires-clause-customer : goal.pay_twice-requires-clause-customer
pay_twice-requires-clause-customer g c = c.in_ok-stage.ensures.first 5 (omega (arith, c.in_ok-stage.ensures.count))

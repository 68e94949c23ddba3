use Rattle.book.proofs.RunNames.{run_named_by, ledger_named_by}
use Rattle.tests_engine.proofs.book_tests.the_second_of_two_conflicts.Given as goal

abbrev pub ghosts-pay_twice-K-Run : goal.ghosts-pay_twice-K-Run
ghosts-pay_twice-K-Run g a = run_named_by a.parts

abbrev pub ghosts-pay_twice-K-Ledger : goal.ghosts-pay_twice-K-Ledger
ghosts-pay_twice-K-Ledger g a = ledger_named_by a.parts

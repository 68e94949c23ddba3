use Rattle.book.proofs.RunNames.{run_named_by, ledger_named_by}
use Rattle.tests_restart.proofs.paying_tests.paid_behind.Given as goal

abbrev pub ghosts-paid_with-K-Run : goal.ghosts-paid_with-K-Run
ghosts-paid_with-K-Run g a = run_named_by a.parts

abbrev pub ghosts-paid_with-K-Ledger : goal.ghosts-paid_with-K-Ledger
ghosts-paid_with-K-Ledger g a = ledger_named_by a.parts

use Rattle.book.proofs.RunNames.{run_named_by, ledger_named_by}
use Rattle.tests_engine.proofs.customer_data_tests.one_payment_of_bad_credit.Given as goal

abbrev pub ghosts-data_after-K-Run : goal.ghosts-data_after-K-Run
ghosts-data_after-K-Run g a = run_named_by a.parts

abbrev pub ghosts-data_after-K-Ledger : goal.ghosts-data_after-K-Ledger
ghosts-data_after-K-Ledger g a = ledger_named_by a.parts

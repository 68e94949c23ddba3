use Rattle.book.proofs.RunNames.{run_named_by, ledger_named_by}
use Rattle.tests_append.proofs.failing_tests.failed_at.Given as goal

abbrev pub ghosts-outcome_of-K-Run : goal.ghosts-outcome_of-K-Run
ghosts-outcome_of-K-Run g a = run_named_by a.parts

abbrev pub ghosts-outcome_of-K-Ledger : goal.ghosts-outcome_of-K-Ledger
ghosts-outcome_of-K-Ledger g a = ledger_named_by a.parts

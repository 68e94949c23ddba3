use Rattle.book.proofs.RunNames.{run_named_by, ledger_named_by}
use Rattle.tests_logger.proofs.failing_tests.failed_at.Given as goal

abbrev pub ghosts-rounds-K-Run : goal.ghosts-rounds-K-Run
ghosts-rounds-K-Run g a = run_named_by a.parts

abbrev pub ghosts-rounds-K-Ledger : goal.ghosts-rounds-K-Ledger
ghosts-rounds-K-Ledger g a = ledger_named_by a.parts

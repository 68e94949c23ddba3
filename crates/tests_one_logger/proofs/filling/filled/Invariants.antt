use Rattle.book.proofs.RunNames.{run_named_by, ledger_named_by}
use Rattle.tests_one_logger.proofs.filling.filled.Given as goal

abbrev pub ghosts-fill-K-Run : goal.ghosts-fill-K-Run
ghosts-fill-K-Run g a = run_named_by a.parts

abbrev pub ghosts-fill-K-Ledger : goal.ghosts-fill-K-Ledger
ghosts-fill-K-Ledger g a = ledger_named_by a.parts

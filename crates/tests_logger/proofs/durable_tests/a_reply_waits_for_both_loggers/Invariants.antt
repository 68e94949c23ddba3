use Rattle.book.proofs.RunNames.{run_named_by, ledger_named_by}
use Rattle.tests_logger.proofs.durable_tests.a_reply_waits_for_both_loggers.Given as goal

abbrev pub ghosts-rounds_of-K-Run : goal.ghosts-rounds_of-K-Run
ghosts-rounds_of-K-Run g a = run_named_by a.parts

abbrev pub ghosts-rounds_of-K-Ledger : goal.ghosts-rounds_of-K-Ledger
ghosts-rounds_of-K-Ledger g a = ledger_named_by a.parts

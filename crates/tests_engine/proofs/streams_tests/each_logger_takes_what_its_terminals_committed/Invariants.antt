use Rattle.book.proofs.RunNames.{run_named_by, ledger_named_by}
use Rattle.tests_engine.proofs.streams_tests.each_logger_takes_what_its_terminals_committed.Given as goal

abbrev pub ghosts-turns_of-K-Run : goal.ghosts-turns_of-K-Run
ghosts-turns_of-K-Run g a = run_named_by a.parts

abbrev pub ghosts-turns_of-K-Ledger : goal.ghosts-turns_of-K-Ledger
ghosts-turns_of-K-Ledger g a = ledger_named_by a.parts

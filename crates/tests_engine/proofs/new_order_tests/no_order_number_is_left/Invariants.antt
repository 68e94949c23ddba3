use Rattle.book.proofs.RunNames.{run_named_by, ledger_named_by}
use Rattle.tests_engine.proofs.new_order_tests.no_order_number_is_left.Given as goal

abbrev pub ghosts-try_both-K-Run : goal.ghosts-try_both-K-Run
ghosts-try_both-K-Run g a = run_named_by a.parts

abbrev pub ghosts-try_both-K-Ledger : goal.ghosts-try_both-K-Ledger
ghosts-try_both-K-Ledger g a = ledger_named_by a.parts

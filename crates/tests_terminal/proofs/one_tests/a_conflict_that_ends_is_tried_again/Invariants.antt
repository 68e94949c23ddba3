use Rattle.book.proofs.RunNames.{run_named_by, ledger_named_by}
use Rattle.tests_terminal.proofs.one_tests.a_conflict_that_ends_is_tried_again.Given as goal

abbrev pub ghosts-two_inputs-K-Run : goal.ghosts-two_inputs-K-Run
ghosts-two_inputs-K-Run g a = run_named_by a.parts

abbrev pub ghosts-two_inputs-K-Ledger : goal.ghosts-two_inputs-K-Ledger
ghosts-two_inputs-K-Ledger g a = ledger_named_by a.parts

use Rattle.book.proofs.RunNames.{run_named_by, ledger_named_by}
use Rattle.tests_terminal.proofs.one_tests.an_order_number_above_the_cap_is_refused.Given as goal

abbrev pub ghosts-two_inputs-K-Run : goal.ghosts-two_inputs-K-Run
ghosts-two_inputs-K-Run g a = run_named_by a.parts

abbrev pub ghosts-two_inputs-K-Ledger : goal.ghosts-two_inputs-K-Ledger
ghosts-two_inputs-K-Ledger g a = ledger_named_by a.parts

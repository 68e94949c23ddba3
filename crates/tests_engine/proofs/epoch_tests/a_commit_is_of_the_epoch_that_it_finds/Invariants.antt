use Rattle.book.proofs.RunNames.{run_named_by, ledger_named_by}
use Rattle.tests_engine.proofs.epoch_tests.a_commit_is_of_the_epoch_that_it_finds.Given as goal

abbrev pub ghosts-pay_in_the_next_epoch-K-Run : goal.ghosts-pay_in_the_next_epoch-K-Run
ghosts-pay_in_the_next_epoch-K-Run g a = run_named_by a.parts

abbrev pub ghosts-pay_in_the_next_epoch-K-Ledger : goal.ghosts-pay_in_the_next_epoch-K-Ledger
ghosts-pay_in_the_next_epoch-K-Ledger g a = ledger_named_by a.parts

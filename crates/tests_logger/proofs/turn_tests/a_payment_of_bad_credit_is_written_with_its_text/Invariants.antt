use Rattle.book.proofs.RunNames.{run_named_by, ledger_named_by}
use Rattle.tests_logger.proofs.turn_tests.a_payment_of_bad_credit_is_written_with_its_text.Given as goal

abbrev pub ghosts-turn-K-Run : goal.ghosts-turn-K-Run
ghosts-turn-K-Run g a = run_named_by a.parts

abbrev pub ghosts-turn-K-Ledger : goal.ghosts-turn-K-Ledger
ghosts-turn-K-Ledger g a = ledger_named_by a.parts

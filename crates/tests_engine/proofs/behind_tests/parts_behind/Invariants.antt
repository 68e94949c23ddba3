use Rattle.book.proofs.RunNames.{run_named_by, ledger_named_by}
use Rattle.tests_engine.proofs.behind_tests.parts_behind.Given as goal

abbrev pub ghosts-earlier_life-K-Run : goal.ghosts-earlier_life-K-Run
ghosts-earlier_life-K-Run g a = run_named_by a.parts

abbrev pub ghosts-earlier_life-K-Ledger : goal.ghosts-earlier_life-K-Ledger
ghosts-earlier_life-K-Ledger g a = ledger_named_by a.parts

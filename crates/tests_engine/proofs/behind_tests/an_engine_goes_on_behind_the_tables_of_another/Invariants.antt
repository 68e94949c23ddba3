use Rattle.book.proofs.RunNames.{run_named_by, ledger_named_by}
use Rattle.tests_engine.proofs.behind_tests.an_engine_goes_on_behind_the_tables_of_another.Given as goal

abbrev pub ghosts-later_life-K-Run : goal.ghosts-later_life-K-Run
ghosts-later_life-K-Run g a = run_named_by a.parts

abbrev pub ghosts-later_life-K-Ledger : goal.ghosts-later_life-K-Ledger
ghosts-later_life-K-Ledger g a = ledger_named_by a.parts

use Rattle.book.proofs.RunNames.{run_named_by, ledger_named_by}
use Rattle.tests_engine.proofs.totals_tests.a_districts_totals.Given as goal

abbrev pub ghosts-course_of-K-Run : goal.ghosts-course_of-K-Run
ghosts-course_of-K-Run g a = run_named_by a.parts

abbrev pub ghosts-course_of-K-Ledger : goal.ghosts-course_of-K-Ledger
ghosts-course_of-K-Ledger g a = ledger_named_by a.parts

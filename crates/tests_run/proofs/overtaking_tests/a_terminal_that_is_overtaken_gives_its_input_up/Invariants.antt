use Rattle.book.specs.Parts.{first_of}
use Rattle.book.proofs.RunNames.{run_named_by, ledger_named_by}
use Rattle.lane_logger.specs.Found.{new_files}
use Rattle.tests_run.proofs.overtaking_tests.a_terminal_that_is_overtaken_gives_its_input_up.Given as goal

abbrev pub ghosts-run_of-K-Run : goal.ghosts-run_of-K-Run
ghosts-run_of-K-Run g a = run_named_by a.parts

abbrev pub ghosts-run_of-K-Ledger : goal.ghosts-run_of-K-Ledger
ghosts-run_of-K-Ledger g a = ledger_named_by a.parts

abbrev pub ghosts-run_of-K-LoggedRun : goal.ghosts-run_of-K-LoggedRun
ghosts-run_of-K-LoggedRun g a = record { found = new_files 1 (first_of a.parts).scale 0 }

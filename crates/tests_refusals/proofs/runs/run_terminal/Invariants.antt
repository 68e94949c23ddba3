use Rattle.book.specs.Parts.{first_of}
use Rattle.book.proofs.RunNames.{run_named_by, ledger_named_by}
use Rattle.lane_logger.specs.Found.{new_files}
use Rattle.tests_refusals.proofs.runs.run_terminal.Given as goal

abbrev pub ghosts-ran_on-K-Run : goal.ghosts-ran_on-K-Run
ghosts-ran_on-K-Run g a = run_named_by a.parts

abbrev pub ghosts-ran_on-K-Ledger : goal.ghosts-ran_on-K-Ledger
ghosts-ran_on-K-Ledger g a = ledger_named_by a.parts

abbrev pub ghosts-ran_on-K-LoggedRun : goal.ghosts-ran_on-K-LoggedRun
ghosts-ran_on-K-LoggedRun g a = record { found = new_files 1 (first_of a.parts).scale 0 }

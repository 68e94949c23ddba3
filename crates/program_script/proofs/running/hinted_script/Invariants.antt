use Rattle.book.proofs.RunNames.{run_named_by, ledger_named_by}
use Rattle.program_script.proofs.running.hinted_script.Given as goal

-- the run is that of the parts
abbrev pub ghosts-run-K-Run : goal.ghosts-run-K-Run
ghosts-run-K-Run g a = run_named_by a.parts

abbrev pub ghosts-run-K-Ledger : goal.ghosts-run-K-Ledger
ghosts-run-K-Ledger g a = ledger_named_by a.parts

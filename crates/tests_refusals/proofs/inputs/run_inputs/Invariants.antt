use Rattle.book.proofs.RunNames.{run_named_by, ledger_named_by}
use Rattle.tests_refusals.proofs.inputs.run_inputs.Given as goal

abbrev pub ghosts-run_at-K-Run : goal.ghosts-run_at-K-Run
ghosts-run_at-K-Run g a = run_named_by a.parts

abbrev pub ghosts-run_at-K-Ledger : goal.ghosts-run_at-K-Ledger
ghosts-run_at-K-Ledger g a = ledger_named_by a.parts

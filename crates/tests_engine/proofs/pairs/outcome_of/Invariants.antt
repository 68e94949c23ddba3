use Rattle.book.proofs.RunNames.{run_named_by, ledger_named_by}
use Rattle.tests_engine.proofs.pairs.outcome_of.Given as goal

abbrev pub ghosts-outcome_on-K-Run : goal.ghosts-outcome_on-K-Run
ghosts-outcome_on-K-Run g a = run_named_by a.parts

abbrev pub ghosts-outcome_on-K-Ledger : goal.ghosts-outcome_on-K-Ledger
ghosts-outcome_on-K-Ledger g a = ledger_named_by a.parts

use Rattle.book.proofs.RunNames.{run_named_by, ledger_named_by}
use Rattle.examples_embed.proofs.main.Given as goal

abbrev pub ghosts-open-K-Run : goal.ghosts-open-K-Run
ghosts-open-K-Run g a = run_named_by a.parts

abbrev pub ghosts-open-K-Ledger : goal.ghosts-open-K-Ledger
ghosts-open-K-Ledger g a = ledger_named_by a.parts

use Rattle.book.proofs.RunNames.{run_named_by, ledger_named_by}
use Rattle.bench_log.proofs.cost.Given as goal

abbrev pub ghosts-append_all-K-Run : goal.ghosts-append_all-K-Run
ghosts-append_all-K-Run g a = run_named_by a.parts

abbrev pub ghosts-append_all-K-Ledger : goal.ghosts-append_all-K-Ledger
ghosts-append_all-K-Ledger g a = ledger_named_by a.parts

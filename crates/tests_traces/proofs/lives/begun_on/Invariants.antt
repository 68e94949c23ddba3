use Rattle.std.proofs.Common.{map}
use Rattle.book.proofs.RunNames.{run_named_by, ledger_named_by}
use Rattle.lane_logger.proofs.Found.{logs_named_by}
use Rattle.tests_traces.proofs.lives.begun_on.Given as goal

abbrev pub ghosts-made_by-K-Run : goal.ghosts-made_by-K-Run
ghosts-made_by-K-Run g a = run_named_by a.parts

abbrev pub ghosts-made_by-K-Ledger : goal.ghosts-made_by-K-Ledger
ghosts-made_by-K-Ledger g a = ledger_named_by a.parts

abbrev pub ghosts-made_by-K-LoggedRun : goal.ghosts-made_by-K-LoggedRun
ghosts-made_by-K-LoggedRun g a = logs_named_by g.D.Disk.seen g.D.Disk.story (map (λ log. log.inner) a.logs.items)

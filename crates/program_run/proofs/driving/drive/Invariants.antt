use Rattle.book.proofs.RunNames.{run_named_by, ledger_named_by}
use Rattle.std.proofs.Common.{map}
use Rattle.lane_logger.proofs.Found.{logs_named_by}
use Rattle.program_run.proofs.driving.drive.Given as goal

abbrev pub ghosts-drive_parts-K-Run : goal.ghosts-drive_parts-K-Run
ghosts-drive_parts-K-Run g a = run_named_by a.parts

abbrev pub ghosts-drive_parts-K-Ledger : goal.ghosts-drive_parts-K-Ledger
ghosts-drive_parts-K-Ledger g a = ledger_named_by a.parts

abbrev pub ghosts-drive_parts-K-LoggedRun : goal.ghosts-drive_parts-K-LoggedRun
ghosts-drive_parts-K-LoggedRun g a = logs_named_by g.D.Disk.seen g.D.Disk.story (map (λ log. log.inner) a.logs.items)

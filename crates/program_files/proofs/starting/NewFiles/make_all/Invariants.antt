use Rattle.std.proofs.Common.{◌≡◌, length}
use Rattle.program_files.proofs.starting.NewFiles.make_all.Given as goal

-- each logger so far has a disk
abbrev pub invariant-loop-logger : goal.invariant-loop-logger
invariant-loop-logger g l = (l.logger-end ≡ l.files.loggers) × (length l.self.disks.items ≡ l.logger)

use Rattle.std.proofs.Common.{◌≡◌, length}
use Rattle.program_files.proofs.logs.sizes.Given as goal

abbrev pub invariant-loop-logger : goal.invariant-loop-logger
invariant-loop-logger g l = (l.logger-end ≡ l.files.loggers) × (length l.sizes.items ≡ l.logger)

use Rattle.std.proofs.Common.{◌≡◌}
use Rattle.program_files.proofs.starting.are_free.Given as goal

abbrev pub invariant-loop-logger : goal.invariant-loop-logger
invariant-loop-logger g l = l.logger-end ≡ l.files.loggers

use Rattle.std.proofs.Common.{◌≡◌, map, Some, length, IfSome}
use Rattle.run_threads.specs.Clocks.{clocks}
use Rattle.run_threads.proofs.Clocks.{clock_left}
use Rattle.run_threads.proofs.crew.manned.Given as goal

-- the loggers so far, in their order, of which the first got the clock, and what of it is left
abbrev pub invariant-loop-log : goal.invariant-loop-log
invariant-loop-log g l = record {
  loggers : map (λ writer. writer.appender.logger.logger) l.writers.items ≡ map (λ log. log.inner) l.yielded;
  clocks : map (λ writer. writer.clock) l.writers.items ≡ clocks (Some l.fn.clock) (length l.yielded);
  left : l.clock ≡ clock_left (Some l.fn.clock) (length l.yielded);
  own : IfSome l.clock (λ seat. seat.board ≡ g.K.Run.run.board);
}

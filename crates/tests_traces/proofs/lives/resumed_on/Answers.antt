use Rattle.book.specs.Parts.{loggers_of}
use Rattle.tests_recorded.proofs.Resumed.{are_logs}
use Rattle.tests_traces.proofs.lives.resumed_on.Goals as goal

pub made_behind-requires-clause-files : goal.made_behind-requires-clause-files
made_behind-requires-clause-files g c κs within =
    are_logs (loggers_of c.in-Ok.restarted.parts) c.in-Ok.ensures.goes_on.2.goes_on.are_parts.loggers_are c.in-Ok.ensures.stand

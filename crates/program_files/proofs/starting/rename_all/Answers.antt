use Rattle.std.proofs.Common.{arith}
use Rattle.program_files.proofs.starting.rename_all.Goals as goal

pub returns-in-Err : goal.returns-in-Err
returns-in-Err g c = record { unready = c.in-Err.ensures.unready (omega (arith, c.loop-logger-test.true, c.loop-logger.invariant)) }

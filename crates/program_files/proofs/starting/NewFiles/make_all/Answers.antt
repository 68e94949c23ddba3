use Rattle.std.proofs.Common.{arith}
use Rattle.program_files.proofs.starting.NewFiles.make_all.Goals as goal

pub returns-in-Err-clause-unready : goal.returns-in-Err-clause-unready
returns-in-Err-clause-unready g c = c.in-Err.ensures.unready

pub returns-in-Err-make_one-clause-unready : goal.returns-in-Err-make_one-clause-unready
returns-in-Err-make_one-clause-unready g c =
    c.in-Err-make_one.ensures.unready (omega (arith, c.loop-logger-test.true, c.loop-logger.invariant.0))

use Rattle.std.proofs.Common.{◌<◌, length, sym, subst, arith}
use Rattle.std.specs.Prelude.{slice_index_or}
use Rattle.traces.specs.First.{IsMade}
use Rattle.traces.proofs.FirstLives.{of_answer}
use Rattle.traces.proofs.first.accepts_first_life.Goals as goal

pub returns : goal.returns
returns c =
    let some : 0 < length c.args.trace.now.disks = omega (arith, c.loggers-loggers.ensures, c.if-loggers-eq0.false) in
    of_answer c.args.trace.now c.args.seed c.deref.result.now c.args.steps.now c.accepts.result some
    (λ l lt d. subst (λ starts. IsMade c.args.trace.now c.args.seed l (slice_index_or starts l d)) (sym c.deref.ensures.value)
    (c.loop-logger.invariant.1 l (omega (arith, lt, c.loggers-loggers.ensures, c.loop-logger.auto.logger-end, c.loop-logger-test.false)) d))
    c.accepts.ensures

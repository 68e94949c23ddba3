use Rattle.book.proofs.Executed.{work_of}
use Rattle.tests_engine.proofs.engine.execute_at.Goals as goal

pub invariant_of-result : goal.invariant_of-result
invariant_of-result g c =
    let made = c.in_ok-work.ensures in (
      made.input,
      work_of c.population-population.ensures.value c.population-population.ensures.of_population c.cells-cells.ensures.value c.args.input c.requires.input c.args.seat.reader c.execute.new.reader
          c.in_ok-work.work made.input made.explains made.limits made.read,
    )

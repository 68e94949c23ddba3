use Rattle.book.proofs.Executed.{work_of}
use Rattle.tests_terminal.proofs.rival.Payer.commit.Goals as goal

pub commit-requires-clause-work : goal.commit-requires-clause-work
commit-requires-clause-work g c =
    let made = c.in_ok-work.ensures in
    work_of c.population.ensures.value c.population.ensures.of_population c.cells-cells.ensures.value c.args.input.now c.requires c.self.inside.reader c.execute.new.reader
    c.in_ok-work.work made.input made.explains made.limits made.read

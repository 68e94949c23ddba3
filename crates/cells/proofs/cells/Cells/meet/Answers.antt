use Rattle.cells.proofs.cells.Cells.meet.Goals as goal

pub returns-clause-latest : goal.returns-clause-latest
returns-clause-latest g c = c.is_latest.ensures.latest c.args.version.now.payload c.requires.seen

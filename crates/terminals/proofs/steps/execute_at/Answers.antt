use Rattle.std.proofs.Common.{IfOk, subst, sym, ◌∙◌}
use Rattle.cells.specs.Records.{CellsView}
use Rattle.tables.specs.Database.{Database}
use Rattle.readset.specs.Explains.{IsWithinLimits}
use Rattle.readset.specs.Transaction.{IsExecuted}
use Rattle.readset.specs.declared.work.Work.{Work}
use Rattle.book.specs.Book.{IsWorkOf}
use Rattle.book.proofs.Executed.{executed_there}
use Rattle.terminals.proofs.Executing.{work_executed}
use Rattle.terminals.proofs.steps.execute_at.Goals as goal

pub returns-clause-executed : goal.returns-clause-executed
returns-clause-executed g c =
    let made = c.execute.ensures in
    executed_there c.execute.result c.population.ensures.of_population
    (subst (λ (t : Database). IsExecuted t c.args.input.now c.args.reader.now c.execute.new.reader c.execute.result) c.population.ensures.value (record {
      input = made.input;
      none_missing = made.none_missing;
      within_cap = made.within_cap;
      read = made.read;
      explains = made.explains;
      limits =
          subst (λ (cells : CellsView). IfOk c.execute.result (λ (work : Work). IsWithinLimits cells work.reads work.writes))
          (c.cells.ensures.value ∙ sym c.requires.reader) made.limits;
      grown = made.grown;
      refused = made.refused;
    }))

pub returns-clause-work : goal.returns-clause-work
returns-clause-work g c =
    subst (λ (cells : CellsView). IfOk c.execute.result (IsWorkOf g.K.Run.run.first cells c.execute.new.reader)) c.requires.reader
    (work_executed g.K.Run.run.first c.args.input.now c.args.reader.now c.execute.new.reader c.execute.result c.requires.input (returns-clause-executed g c))

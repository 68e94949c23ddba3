use Rattle.std.proofs.Common.{◌≡◌, Result, Ok, Err, IfOk}
use Rattle.money.specs.declared.refusal.Refusal.{Refusal}
use Rattle.tables.specs.Database.{Database}
use Rattle.tables.specs.Constant.{IsOf}
use Rattle.tables.specs.Inputs.{IsInput}
use Rattle.tables.specs.declared.input.Input.{Input}
use Rattle.cells.specs.Records.{CellsView, ReaderView}
use Rattle.readset.specs.Reads.{AreRead}
use Rattle.readset.specs.Explains.{Explains, IsWithinLimits}
use Rattle.readset.specs.declared.work.Work.{Work}
use Rattle.book.specs.Book.{IsWorkOf}
use Rattle.book.proofs.Executed.{work_of}
use Rattle.tests_logger.proofs.desk.executed.Goals as goal

-- what was executed, where it was, is the reader's work
work_if_ok : (here p t0 : Database) → here ≡ p → IsOf p t0 → (own cells : CellsView) → own ≡ cells → (x : Input)
    → IsInput t0.scale x → (old new : ReaderView) → (r : Result Work Refusal) → IfOk r (λ w. w.input ≡ x)
    → IfOk r (λ w. Explains here x w.reads w.writes w.reply)
    → IfOk r (λ w. IsWithinLimits own w.reads w.writes) → IfOk r (λ w. AreRead old new w.reads)
    → IfOk r (λ w. IsWorkOf t0 cells new w)
work_if_ok here p t0 same of own cells same_cells x is_input old new (Ok work) input explained limits read =
    work_of same of same_cells x is_input old new work input explained limits read
work_if_ok here p t0 same of own cells same_cells x is_input old new (Err refusal) input explained limits read = input

pub returns-clause-work : goal.returns-clause-work
returns-clause-work g c =
    let made = c.execute.ensures in
    work_if_ok _ _ _ c.population-population.ensures.value c.population-population.ensures.of_population _ _ c.cells-cells.ensures.value c.args.input.now
    c.requires.input
    c.args.reader.now c.execute.new.reader c.execute.result made.input made.explains made.limits made.read

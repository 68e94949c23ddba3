-- What an execution comes to.
use Rattle.std.proofs.Common.{◌≡◌, [], Result, Ok, Err, IfOk, refl}
use Rattle.money.specs.declared.refusal.Refusal.{Refusal}
use Rattle.tables.specs.Database.{Database}
use Rattle.tables.specs.Inputs.{IsInput}
use Rattle.tables.specs.declared.input.Input.{Input}
use Rattle.cells.specs.Records.{ReaderView}
use Rattle.readset.specs.Transaction.{IsExecuted}
use Rattle.readset.specs.declared.work.Work.{Work}
use Rattle.book.specs.Book.{IsWorkOf}
use Rattle.book.proofs.Executed.{work_of}
use Rattle.book.proofs.Replaying.{replay-IsOf}

-- the reader's work
pub work_executed : (t0 : Database) (x : Input) (old new : ReaderView) (r : Result Work Refusal) → IsInput t0.scale x
    → IsExecuted t0 x old new r → IfOk r (IsWorkOf t0 old.cells new)
work_executed t0 x old new (Ok work) input made =
    let same : old.cells ≡ old.cells = refl in
    work_of refl (replay-IsOf t0 []) same x input old new work made.input made.explains made.limits made.read
work_executed t0 x old new (Err refusal) input made = tt

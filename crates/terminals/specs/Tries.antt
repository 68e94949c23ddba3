-- The tries of an input. Each is executed without a lock, and committed under the book's (Silo, section 4.4).
use Rattle.std.specs.Prelude.{◌≡◌, ℕ, zero, suc, ◌+◌, ◌≤◌, ◌⊎◌, ⊤, Result, Ok, Err, length}
use Rattle.money.specs.declared.refusal.Refusal.{Refusal}
use Rattle.money.specs.declared.refusal.Refusal.TheVariants.{OutOfMemory, Stale, Conflict, ItemNotValid, CommitsFull}
use Rattle.money.specs.declared.refusal.Refusal.TheVariants.{GaveUp, OrdersFull}
use Rattle.tables.specs.Apply.{apply, RolledBack}
use Rattle.tables.specs.Constant.{IsOf}
use Rattle.tables.specs.Database.{Database}
use Rattle.tables.specs.declared.input.Input.{Input}
use Rattle.cells.specs.Records.{ReaderView, HasGrown}
use Rattle.readset.specs.Refused.{NoneMissing}
use Rattle.readset.specs.Transaction.{IsExecuted}
use Rattle.readset.specs.declared.work.Work.{Work}
use Rattle.book.specs.Book.{BookView, IsSound, HasConflict}
use Rattle.book.specs.History.{replay}
use Rattle.terminals.specs.declared.terminal.TheConstants.{TRIES}

-- what is so of the book whenever its lock is free
abbrev pub IsSoundBook : ℕ → Database → BookView → Type 0
IsSoundBook past t0 book = IsSound past t0 book.written book.history (replay t0 book.history)

-- why a work isn't committed at a book: some version that it read isn't its record's last; or as many transactions have
-- committed as may; or memory was wanting
abbrev pub IsTurnedAway : ℕ → Database → BookView → Work → Refusal → Type 0
IsTurnedAway past t0 book work Conflict = HasConflict book.written.all work.reads
IsTurnedAway past t0 book work CommitsFull = t0.scale.commits ≤ past + length book.history
IsTurnedAway past t0 book work OutOfMemory = ⊤
IsTurnedAway past t0 book work _ = ⊥

-- a try that is refused so, whose reader goes from one of these states to the other: its execution is refused; or it
-- comes to a work, which a sound book turns away
pub data IsTry (past : ℕ) (t0 : Database) (x : Input) (old new : ReaderView) (refusal : Refusal) : Type 0 where
  unexecuted : IsExecuted t0 x old new (Err refusal) → IsTry past t0 x old new refusal
  uncommitted : (read : ReaderView) (work : Work) (book : BookView) → IsExecuted t0 x old read (Ok work)
      → HasGrown read new → IsSoundBook past t0 book → IsTurnedAway past t0 book work refusal
      → IsTry past t0 x old new refusal

-- a try that is refused so is to be tried again: what it read wasn't or isn't the latest
abbrev pub IsTriedAgain : Refusal → Type 0
IsTriedAgain refusal = (refusal ≡ Stale) ⊎ (refusal ≡ Conflict)

-- and so is one with this outcome
abbrev pub IsAgain : Result ℕ Refusal → Type 0
IsAgain (Ok number) = ⊥
IsAgain (Err refusal) = IsTriedAgain refusal

-- so many tries, one after another, each of which is to be tried again
unfoldable pub AreTriedAgain : ℕ → Database → Input → ReaderView → ℕ → ReaderView → Type 0
AreTriedAgain past t0 x old zero new = new ≡ old
AreTriedAgain past t0 x old (suc tries) new = (between : ReaderView) × (refusal : Refusal)
    × AreTriedAgain past t0 x old tries between × IsTriedAgain refusal × IsTry past t0 x between new refusal

-- how the last try of an input ends that comes to this: it has committed, or it isn't to be tried again
abbrev pub IsLastTry : ℕ → Database → Input → ReaderView → ReaderView → Result ℕ Refusal → Type 0
IsLastTry past t0 x old new (Ok number) = ⊤
IsLastTry past t0 x old new (Err refusal) = ¬ IsTriedAgain refusal × IsTry past t0 x old new refusal

-- an input was tried so often, as its reader goes from one of these states to the other, and came to this: there was no
-- memory for the input; or the last try has ended so, and those before it were to be tried again; or all were that
-- there may be
pub data AreTries (past : ℕ) (t0 : Database) (x : Input) (old new : ReaderView) (tries : ℕ) (result : Result ℕ Refusal)
    : Type 0 where
  none : tries ≡ 0 → new ≡ old → result ≡ Err OutOfMemory → AreTries past t0 x old new tries result
  ended : (again : ℕ) (between : ReaderView) → tries ≡ again + 1 → tries ≤ TRIES
      → AreTriedAgain past t0 x old again between → IsLastTry past t0 x between new result
      → AreTries past t0 x old new tries result
  gave_up : tries ≡ TRIES → AreTriedAgain past t0 x old tries new → result ≡ Err GaveUp
      → AreTries past t0 x old new tries result

-- by what an input may be refused in the end: so of those that aren't rolled back or given up, memory was wanting, or a
-- cap was reached
abbrev pub EndsAnInput : Refusal → Type 0
EndsAnInput OutOfMemory = ⊤
EndsAnInput (ItemNotValid item) = ⊤
EndsAnInput OrdersFull = ⊤
EndsAnInput CommitsFull = ⊤
EndsAnInput GaveUp = ⊤
EndsAnInput _ = ⊥

-- what an outcome tells of the input's items: the first that isn't in ITEM; or else all are there, if memory wasn't
-- wanting
abbrev pub TellsMissing : Database → Input → Result ℕ Refusal → Type 0
TellsMissing t0 x (Err OutOfMemory) = ⊤
TellsMissing t0 x (Err (ItemNotValid item)) = (t : Database) → IsOf t0 t → apply t x ≡ RolledBack item
TellsMissing t0 x _ = NoneMissing t0 x

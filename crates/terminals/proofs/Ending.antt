-- How the tries of an input end that is refused.
use Rattle.std.proofs.Common.{ℕ, inl, inr, Result, Ok, Err, IfErr, refl, sym, subst}
use Rattle.money.specs.declared.refusal.Refusal.{Refusal}
use Rattle.money.specs.declared.refusal.Refusal.TheVariants.{OutOfMemory, ItemNotValid, OrdersFull, CommitsFull, Stale, Conflict}
use Rattle.tables.specs.Database.{Database}
use Rattle.tables.specs.declared.input.Input.{Input}
use Rattle.cells.specs.Records.{ReaderView}
use Rattle.readset.specs.Refused.{IsRefusal}
use Rattle.readset.specs.declared.work.Work.{Work}
use Rattle.book.specs.Book.{BookView}
use Rattle.terminals.specs.Tries.{AreTries, EndsAnInput, IsTriedAgain, IsTry, IsTurnedAway}
use Rattle.terminals.specs.Tries.{none, ended, gave_up, unexecuted, uncommitted}

-- a refusal that isn't tried again ends its input
refused_ends : (t0 : Database) (x : Input) (old new : ReaderView) (refusal : Refusal) → IsRefusal t0 x old new refusal
    → ¬ IsTriedAgain refusal → EndsAnInput refusal
refused_ends t0 x old new OutOfMemory refused final = tt
refused_ends t0 x old new (ItemNotValid item) refused final = tt
refused_ends t0 x old new OrdersFull refused final = tt
refused_ends t0 x old new Stale refused final = absurd (final (inl refl))
refused_ends t0 x old new _ refused final = absurd refused

turned_ends : (past : ℕ) (t0 : Database) (book : BookView) (work : Work) (refusal : Refusal)
    → IsTurnedAway past t0 book work refusal → ¬ IsTriedAgain refusal → EndsAnInput refusal
turned_ends past t0 book work OutOfMemory away final = tt
turned_ends past t0 book work CommitsFull away final = tt
turned_ends past t0 book work Conflict away final = absurd (final (inr refl))
turned_ends past t0 book work _ away final = absurd away

try_ends : (past : ℕ) (t0 : Database) (x : Input) (old new : ReaderView) (refusal : Refusal)
    → IsTry past t0 x old new refusal → ¬ IsTriedAgain refusal → EndsAnInput refusal
try_ends past t0 x old new refusal (unexecuted executed) final = refused_ends t0 x old new refusal executed.refused final
try_ends past t0 x old new refusal (uncommitted read work book executed grown sound away) final =
    turned_ends past t0 book work refusal away final

pub tries_end : (past : ℕ) (t0 : Database) (x : Input) (old new : ReaderView) (tries : ℕ) (result : Result ℕ Refusal)
    → AreTries past t0 x old new tries result → IfErr result EndsAnInput
tries_end past t0 x old new tries (Ok number) are = tt
tries_end past t0 x old new tries (Err refusal) (none so_many same is) =
    subst (λ (r : Result ℕ Refusal). IfErr r EndsAnInput) (sym is) tt
tries_end past t0 x old new tries (Err refusal) (ended again between so_many few tried last) =
    try_ends past t0 x between new refusal last.1 last.0
tries_end past t0 x old new tries (Err refusal) (gave_up so_many tried is) =
    subst (λ (r : Result ℕ Refusal). IfErr r EndsAnInput) (sym is) tt

-- Refusals at the committed tables, from what an execution and a commit say.
use Rattle.std.proofs.Common.{◌≡◌, ◌≢◌, ℕ, ◌+◌, ◌≤◌, ◌⊎◌, inl, inr, Option, List, length, refl, sym, subst}
use Rattle.money.specs.declared.refusal.Refusal.{Refusal}
use Rattle.money.specs.declared.refusal.Refusal.TheVariants.{OutOfMemory, Conflict, Stale, ItemNotValid, OrdersFull, CommitsFull, EpochFull}
use Rattle.tables.specs.Sizes.{Sizes}
use Rattle.tables.specs.Database.{Database}
use Rattle.tables.specs.Apply.{HasOrderNumber}
use Rattle.tables.specs.declared.input.Input.{Input}
use Rattle.cells.specs.Records.{ReaderView}
use Rattle.readset.specs.Commit.{IsCommitted}
use Rattle.readset.specs.Refused.{IsRefusal}
use Rattle.readset.specs.declared.work.Work.{Work}
use Rattle.book.specs.History.{replay, CommitsAt}
use Rattle.book.specs.declared.entry.Entry.{Entry}
use Rattle.book.proofs.Replaying.{replay-IsOf, replay-scale}
use Rattle.book.specs.Book.{BookView}
use Rattle.book.specs.Committing.{IsDeclined}
use Rattle.book.specs.Next.{IsRefusedAt}

module _ (past : ℕ) (t0 : Database) (history : List Entry) (x : Input) where
  -- where no order number is left there
  pub orders_full : (old new : ReaderView) → IsRefusal t0 x old new OrdersFull → ¬ HasOrderNumber (replay t0 history) x
      → IsRefusedAt (replay t0 history) (past + length history) x OrdersFull
  orders_full old new h none = (h.0 (replay t0 history) (replay-IsOf t0 history), none)

  -- any other refusal of an execution
  pub as_refused : (old new : ReaderView) (refusal : Refusal) → IsRefusal t0 x old new refusal → refusal ≢ OrdersFull
      → (refusal ≡ Stale) ⊎ (refusal ≡ OutOfMemory) ⊎ IsRefusedAt (replay t0 history) (past + length history) x refusal
  as_refused old new OutOfMemory h other = inr (inl refl)
  as_refused old new (ItemNotValid item) h other = inr (inr (h (replay t0 history) (replay-IsOf t0 history)))
  as_refused old new OrdersFull h other = absurd (other refl)
  as_refused old new Stale h other = inl refl
  as_refused old new _ h other = absurd h

-- a work that is done there, and comes at the commit cap
commits_full : (past : ℕ) (t0 : Database) (history : List Entry) (work : Work) → CommitsAt (replay t0 history) work.input work.writes work.reply
    → t0.scale.commits ≤ past + length history → IsRefusedAt (replay t0 history) (past + length history) work.input CommitsFull
commits_full past t0 history work done cap = (
  subst IsCommitted (sym done.commit.commits) tt,
  done.commit.numbered,
  subst (λ (s : Sizes). s.commits ≤ past + length history) (sym (replay-scale t0 history)) cap,
)

-- a refusal of a commit, by its cause
pub refused_there : (past : ℕ) (t0 : Database) (book : BookView) (tid : Option ℕ) (work : Work) (refusal : Refusal) → refusal ≢ EpochFull
    → IsDeclined t0 book (past + length book.history) tid work refusal
    → (refusal ≡ Conflict) ⊎ (refusal ≡ OutOfMemory) ⊎ IsRefusedAt (replay t0 book.history) (past + length book.history) work.input refusal
refused_there past t0 book tid work Conflict never h = inl refl
refused_there past t0 book tid work OutOfMemory never h = inr (inl refl)
refused_there past t0 book tid work CommitsFull never h = inr (inr (commits_full past t0 book.history work h.0.there h.1))
refused_there past t0 book tid work EpochFull never h = absurd (never refl)
refused_there past t0 book tid work _ never h = absurd h.1

-- A terminal, and what an input does to it.
use Rattle.std.specs.Prelude.{◌≡◌, ℕ, ◌+◌, min, [], ◌∷◌, ◌++◌}
use Rattle.tables.specs.Database.{Database}
use Rattle.tables.specs.declared.input.Input.{Input}
use Rattle.tables.specs.declared.limits.TheConstants.{MAX_DATE}
use Rattle.cells.specs.Records.{ReaderView}
use Rattle.terminals_deck.specs.Deck.{DeckView}
use Rattle.book.specs.Book.{BookView}
use Rattle.book.specs.Done.{Done}
use Rattle.book.specs.Next.{IsNextCommit}
use Rattle.book.specs.Share.{ShareView}
use Rattle.book.specs.declared.entry.Entry.{Entry}
use Rattle.terminals.specs.Outbox.{OutboxView, IsSameBut}
use Rattle.terminals.specs.Tries.{IsSoundBook}

-- what contracts see of a terminal
pub record TerminalView : Type 0 where
  pub reader : ReaderView
  pub share : ShareView
  pub outbox : OutboxView
  pub deck : DeckView

-- a deck stands behind the input that was its next
pub record IsTurned (old new : DeckView) : Type 0 where
  pub scale : new.scale ≡ old.scale
  pub home : new.home ≡ old.home
  pub date : new.date ≡ min (old.date + 1) MAX_DATE

-- a share with one commit more
abbrev pub with_commit : ShareView → ShareView
with_commit share = record { terminal = share.terminal; parts = share.parts; commits = share.commits + 1 }

-- an input is the next commit at a sound book, by this terminal, which is told this
pub record IsEntered (past : ℕ) (t0 : Database) (book : BookView) (x : Input) (terminal : ℕ) (done : Done) : Type 0 where
  pub sound : IsSoundBook past t0 book
  pub entry : Entry
  pub input : entry.input ≡ x
  pub by : entry.terminal ≡ terminal
  pub told : done ≡ record { number = entry.number; tid = entry.tid; reply = entry.reply }
  pub next : IsNextCommit past t0 book.history (book.history ++ entry ∷ []) x done

-- an input is the terminal's next commit, of this number, at a sound book, and its reply is the last that waits
pub record HasCommitted (past : ℕ) (t0 : Database) (x : Input) (old new : TerminalView) (number : ℕ) : Type 0 where
  pub book : BookView
  pub done : Done
  pub entered : IsEntered past t0 book x old.share.terminal done
  pub numbered : done.number ≡ number
  pub share : new.share ≡ with_commit old.share
  pub seat : new.outbox.seat ≡ old.outbox.seat
  pub released : new.outbox.released ≡ old.outbox.released
  pub waiting : new.outbox.waiting ≡ old.outbox.waiting ++ done ∷ []

-- nothing is committed
pub record HasRefused (old new : TerminalView) : Type 0 where
  pub share : new.share ≡ old.share
  pub outbox : IsSameBut old.outbox new.outbox

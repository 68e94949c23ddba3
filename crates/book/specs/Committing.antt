-- What a commit comes to: what it leaves, or why it is refused.
use Rattle.std.specs.Prelude.{◌≡◌, ℕ, ◌+◌, ◌<◌, ◌≤◌, Option, Some, None, IsSome, length}
use Rattle.money.specs.declared.refusal.Refusal.{Refusal}
use Rattle.money.specs.declared.refusal.Refusal.TheVariants.{OutOfMemory, Conflict, CommitsFull, EpochFull}
use Rattle.tables.specs.Database.{Database}
use Rattle.cells.specs.Records.{ReaderView}
use Rattle.readset.specs.declared.work.Work.{Work}
use Rattle.book.specs.Book.{BookView, AreLatest, HasConflict, HasSeen, IsAsBefore, Commits, entry_of}
use Rattle.book.specs.Done.{Done}
use Rattle.book.specs.Epochs.{found_epoch}
use Rattle.book.specs.History.{replay, CommitsAt}
use Rattle.book.specs.Share.{ShareView}
use Rattle.book.specs.Stamps.{tid_for}

-- a work may commit as far as what it read goes: each version is the latest, and so it is done at the committed tables
pub record IsDue (t0 : Database) (book : BookView) (work : Work) : Type 0 where
  pub latest : AreLatest book.written.all work.reads
  pub there : CommitsAt (replay t0 book.history) work.input work.writes work.reply

-- a commit that is due, behind so many others, is refused so at this cap, where this is the TID that it would take: the
-- cap comes first, then the epoch, then memory
abbrev pub IsHindered : ℕ → ℕ → Option ℕ → Refusal → Type 0
IsHindered count cap tid CommitsFull = cap ≤ count
IsHindered count cap tid EpochFull = (count < cap) × (tid ≡ None)
IsHindered count cap tid OutOfMemory = (count < cap) × IsSome tid
IsHindered count cap tid _ = ⊥

-- a commit of a work is refused so, behind so many others, where this is the TID that it would take
abbrev pub IsDeclined : Database → BookView → ℕ → Option ℕ → Work → Refusal → Type 0
IsDeclined t0 book count tid work Conflict = HasConflict book.written.all work.reads
IsDeclined t0 book count tid work refusal = IsDue t0 book work × IsHindered count t0.scale.commits tid refusal

-- the terminal of this share has committed the work, behind so many past commits and those of the book, and was told
-- this: its reader has seen what was stored
pub record CommitsWork (past : ℕ) (t0 : Database) (old new : BookView) (before after : ShareView) (reader : ReaderView)
    (work : Work) (done : Done) : Type 0 where
  pub due : IsDue t0 old work
  pub below : past + length old.history < t0.scale.commits
  pub tid : tid_for old.history before.terminal (found_epoch new.seat) work.reads ≡ Some done.tid
  pub commits : Commits old new (entry_of (past + length old.history + 1) done.tid before.terminal work)
  pub number : done.number ≡ past + length old.history + 1
  pub reply : done.reply ≡ work.reply
  pub share : after ≡ record before { commits = before.commits + 1 }
  pub seen : HasSeen reader new.written work.writes

-- the book has refused to, for this cause, and neither it nor the share has changed, but that its seat has loaded E
pub record DeclinesWork (past : ℕ) (t0 : Database) (old new : BookView) (before after : ShareView) (work : Work)
    (refusal : Refusal) : Type 0 where
  pub cause : IsDeclined t0 old (past + length old.history)
      (tid_for old.history before.terminal (found_epoch new.seat) work.reads) work refusal
  pub book : IsAsBefore old new
  pub share : after ≡ before

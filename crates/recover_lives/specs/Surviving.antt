-- What crashes leave over many lives.
use Rattle.std.specs.Prelude.{◌≡◌, ◌⊎◌, ℕ, ◌%◌, ◌<◌, ◌≤◌, true, false, List, [], ◌++◌, length, slice_index_or}
use Rattle.std.specs.List.{All, Contains}
use Rattle.tidword.specs.TidWord.{epoch_of}
use Rattle.log_text.specs.Bodies.{BodyView}
use Rattle.log_text.specs.Entries.{EntryView}
use Rattle.log_text.specs.File.{IsFile}
use Rattle.log_entries.specs.Logged.{logged_entry}
use Rattle.book.specs.History.{IsLegal, replay}
use Rattle.book.specs.declared.entry.Entry.{Entry}
use Rattle.recover_found.specs.Found.{durable_of, entries_of}
use Rattle.recover_crashes.specs.Recovering.{is_void}
use Rattle.recover_laws.specs.Found.{durable_cut}
use Rattle.recover_laws.specs.Recovered.{GiveTheReplay}
use Rattle.recover_lives.specs.World.{Origin, header_at, Lives, joined_history, released_by, durable_at, IsRunning}

-- after a crash that leaves these strings: they are log files, whose durable epoch is no less than D. What counts of
-- the history over all lives is a beginning of it, and legal; each entry whose reply was released, in whatever life, is
-- among it; and the files give its replay
pub record LeavesTheReplay (o : Origin) (w : Lives) (strings : ℕ → List ℕ) : Type 0 where
  pub left : List (List BodyView)
  pub count : length left ≡ o.loggers
  pub files : (l : ℕ) → l < o.loggers → IsFile (strings l) (header_at o l) (slice_index_or left l [])
  pub no_less : durable_at w ≤ durable_of left
  pub rest : List Entry
  pub beginning : joined_history w ≡ durable_cut left (joined_history w) ++ rest
  pub legal : IsLegal 0 o.first (durable_cut left (joined_history w))
      (replay o.first (durable_cut left (joined_history w)))
  pub give : GiveTheReplay o.first left (joined_history w)
  pub released : All (Contains (durable_cut left (joined_history w))) (released_by w)

-- D is lawful over all lives, whatever a crash leaves: each entry of the history with an epoch up to D that isn't void
-- stands in its logger's file; while a life runs no entry of the history is of a void epoch; and an entry that stands
-- in a file but isn't of the history, as one that a restart gave up, is of an epoch above D or a void one
pub record IsLawfulOverLives (o : Origin) (w : Lives) (strings : ℕ → List ℕ) : Type 0 where
  pub left : ℕ → List BodyView
  pub files : (l : ℕ) → l < o.loggers → IsFile (strings l) (header_at o l) (left l)
  pub kept : (l : ℕ) → l < o.loggers → (e : Entry) → Contains (joined_history w) e → e.terminal % o.loggers ≡ l
      → epoch_of e.tid ≤ durable_at w → is_void o.loggers left (epoch_of e.tid) ≡ false
      → Contains (entries_of (left l)) (logged_entry o.first.scale e)
  pub live : IsRunning w → (e : Entry) → Contains (joined_history w) e → is_void o.loggers left (epoch_of e.tid) ≡ false
  pub lost : (l : ℕ) → l < o.loggers → (entry : EntryView) → Contains (entries_of (left l)) entry
      → ((e : Entry) → Contains (joined_history w) e → logged_entry o.first.scale e ≡ entry → ⊥)
      → (durable_at w < epoch_of entry.tid) ⊎ (is_void o.loggers left (epoch_of entry.tid) ≡ true)

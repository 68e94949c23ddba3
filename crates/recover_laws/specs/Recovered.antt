-- That recovery gives a part of the history.
use Rattle.std.specs.Prelude.{◌≡◌, ℕ, ◌<◌, List, [], ◌++◌, length, map, slice_index_or}
use Rattle.std.specs.List.{All}
use Rattle.tables.specs.Database.{Database}
use Rattle.tables.specs.Sizes.{Sizes, IsScale}
use Rattle.tables.specs.Conditions.{IsConsistent}
use Rattle.tables.specs.WellFormed.{IsWellFormed, HasRoom}
use Rattle.tables.specs.declared.limits.TheConstants.{MAX_COMMITS}
use Rattle.log_text.specs.Bodies.{BodyView}
use Rattle.log_entries.specs.Logged.{logged_entry}
use Rattle.book.specs.History.{Replays, replay}
use Rattle.book.specs.Loggable.{IsLoggable}
use Rattle.book.specs.Stamps.{AreStamped}
use Rattle.book.specs.Streams.{stream}
use Rattle.book.specs.declared.entry.Entry.{Entry}
use Rattle.recover_found.specs.Found.{kept, found}
use Rattle.recover_found.specs.Rebuilt.{HaveNoGap, IsRebuilt}
use Rattle.recover_laws.specs.Found.{durable_cut}

-- what recovery keeps of a history is a beginning of it, and of each file what that has of the logger's stream
pub record HoldTheCut (s : Sizes) (files : List (List BodyView)) (history : List Entry) : Type 0 where
  pub rest : List Entry
  pub beginning : history ≡ durable_cut files history ++ rest
  pub same : (l : ℕ) → l < length files
      → kept files (slice_index_or files l [])
      ≡ map (logged_entry s) (stream (length files) l (durable_cut files history))

-- the history of a database that began with these tables: replayed from 1, stamped, and written to log files
pub record IsHistoryOf (t0 : Database) (history : List Entry) : Type 0 where
  pub scale : IsScale t0.scale
  pub well_formed : IsWellFormed t0
  pub consistent : IsConsistent t0
  pub room : HasRoom (length history) t0
  pub replays : Replays 1 t0 history
  pub stamped : AreStamped history
  pub loggable : All (IsLoggable t0.scale) history

-- files that hold the cut have its entries, each once, with no gap; and what is rebuilt of them is the cut's replay
pub record GiveTheReplay (t0 : Database) (files : List (List BodyView)) (history : List Entry) : Type 0 where
  pub as_many : length (found files) ≡ length (durable_cut files history)
  pub no_gap : HaveNoGap (found files)
  pub is_replay : (t : Database) → IsRebuilt t0 (found files) t → t ≡ replay t0 (durable_cut files history)

-- the tables that a database begins with: well-formed and consistent, with room for all commits
pub record IsFirstDatabase (t0 : Database) : Type 0 where
  pub scale : IsScale t0.scale
  pub well_formed : IsWellFormed t0
  pub consistent : IsConsistent t0
  pub room : HasRoom MAX_COMMITS t0

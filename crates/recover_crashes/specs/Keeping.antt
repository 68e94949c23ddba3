-- What no crash can take: the durable epoch is lawful.
use Rattle.std.specs.Prelude.{ℕ, ◌<◌, ◌≤◌, List, ◌++◌}
use Rattle.std.specs.List.{Contains}
use Rattle.tidword.specs.TidWord.{epoch_of}
use Rattle.log_disk.specs.Crashes.{Leaves}
use Rattle.log_header.specs.Header.{HeaderView}
use Rattle.log_text.specs.Bodies.{BodyView}
use Rattle.log_text.specs.File.{IsFile}
use Rattle.book.specs.Streams.{stream}
use Rattle.book.specs.declared.entry.Entry.{Entry}
use Rattle.log_entries.specs.Logged.{logged_entry}
use Rattle.recover_found.specs.Found.{entries_of}
use Rattle.recover_crashes.specs.World.{Life, World, header_of}

-- a string has a stream up to an epoch: it is a log file, and each entry of no later epoch stands in a body that counts
pub record HasUpTo (h : HeaderView) (entries : List Entry) (epoch : ℕ) (bytes : List ℕ) : Type 0 where
  pub bodies : List BodyView
  pub file : IsFile bytes h bodies
  pub each : (e : Entry) → Contains entries e → epoch_of e.tid ≤ epoch
      → Contains (entries_of bodies) (logged_entry h.scale e)

-- an epoch is lawful as the durable one: whatever a crash now leaves on a logger's disk has the logger's stream up to
-- it, of what was past when the life began and of what has committed since
abbrev pub IsLawfulEpoch : Life → List Entry → World → ℕ → Type 0
IsLawfulEpoch life past w epoch = (l : ℕ) → l < life.plan.loggers
    → Leaves (HasUpTo (header_of life l) (stream life.plan.loggers l (past ++ w.history)) epoch)
    (w.logger l).file.disk.story

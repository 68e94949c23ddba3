-- What a trace tells of a run: of each step an event of the crash world, which may happen there or not.
use Rattle.std.specs.Prelude.{◌≡◌, ℕ, ◌+◌, ◌<◌, min, Option, Some, MatchOption, Ok, List, [], ◌∷◌, length, drop}
use Rattle.std.specs.Prelude.{slice_index_or}
use Rattle.std.specs.List.{All, slice_get}
use Rattle.std.specs.Option.{option_map, option_map_or}
use Rattle.tables.specs.Sizes.{Sizes}
use Rattle.tables.specs.declared.limits.TheConstants.{MAX_TERMINALS}
use Rattle.log_disk.specs.declared.memory_call.MemoryCall.{MemoryCall}
use Rattle.log_disk.specs.Memory.{MemoryView, Replay, after_call}
use Rattle.log_header.specs.declared.header.TheConstants.{VERSION}
use Rattle.book.specs.Batches.{BatchView}
use Rattle.book.specs.History.{Replays}
use Rattle.book.specs.Loggable.{IsLoggable}
use Rattle.book.specs.Stamps.{AreStamped}
use Rattle.book.specs.Streams.{stream}
use Rattle.book.specs.declared.entry.Entry.{Entry}
use Rattle.logfile.specs.Standing.{LogFileView}
use Rattle.recover_crashes.specs.World.{Life, DiskView, World}
use Rattle.recover_crashes.specs.Events.{Event, MayHappen, world_after}
use Rattle.recover_crashes.specs.Events.{Commit, Take, Advance, CallDevice, Confirm, LoadMark, RaiseDurable, Release}
use Rattle.traces.specs.declared.step.Start.{Start}
use Rattle.traces.specs.declared.step.Step.{Step}
use Rattle.traces.specs.declared.step.Step.TheVariants as step

-- what contracts see of a trace: the database's scale, what has committed, in order, and the disks, by loggers
pub record TraceView : Type 0 where
  pub scale : Sizes
  pub history : List Entry
  pub disks : List MemoryView

-- the calls that a logger's disk has done, in order
abbrev pub calls_of : TraceView → ℕ → List MemoryCall
calls_of t logger = (slice_index_or t.disks logger (record { calls = []; failures = 0 })).calls

-- a disk after one call more, which was done
abbrev pub disk_after : DiskView → MemoryCall → DiskView
disk_after d call =
    let r : Replay = after_call (record { bytes = d.seen; story = d.story }) call in
    record { seen = r.bytes; story = r.story }

-- the rest of a logger's stream where the world is so, as a batch of this mark that begins where the logger's file ends
abbrev pub batch_at : ℕ → World → ℕ → ℕ → BatchView
batch_at loggers w logger mark = record {
  logger = (w.logger logger).file.header.logger;
  loggers = (w.logger logger).file.header.loggers;
  scale = (w.logger logger).file.header.scale;
  seed = (w.logger logger).file.header.seed;
  first = (w.logger logger).file.count;
  number_before = (w.logger logger).file.number;
  mark_before = (w.logger logger).file.last.mark;
  entries = drop (w.logger logger).file.count (stream loggers logger w.history);
  mark = mark;
}

-- the least of these marks, and 0 where there is none
abbrev pub least_mark : List ℕ → ℕ
least_mark [] = 0
least_mark (mark ∷ []) = mark
least_mark (mark ∷ other ∷ marks) = min mark (least_mark (other ∷ marks))

-- the event that a step tells of where the world is so, if the trace goes on so far: a commit is of the history's next
-- entry, and a call is the disk's next one, which was done. None tells of a load of E by itself, nor of a call that failed
abbrev pub event_told : TraceView → World → Step → Option Event
event_told t w step.Commit = option_map Commit (slice_get t.history (length w.history))
event_told t w (step.Take logger mark) = Some (Take logger (batch_at (length t.disks) w logger mark))
event_told t w step.Advance = Some Advance
event_told t w (step.Call logger) =
    option_map (λ call. CallDevice logger (Ok tt) (disk_after (w.logger logger).file.disk call))
    (slice_get (calls_of t logger) (length (w.logger logger).file.disk.story))
event_told t w (step.Confirm logger) = Some (Confirm logger)
event_told t w (step.LoadMark logger) = Some (LoadMark logger)
event_told t w (step.RaiseDurable logger) =
    Some (RaiseDurable logger (least_mark (w.logger logger).marks))
event_told t w (step.Release place) = option_map Release (slice_get w.history place)

-- a step may be taken where the world is so: it tells of an event, which may happen there
abbrev pub MayBeTaken : Life → TraceView → World → Step → Type 0
MayBeTaken life t w s = MatchOption (event_told t w s) ⊥ (MayHappen life w)

-- the world after a step
abbrev pub world_told : TraceView → World → Step → World
world_told t w s = option_map_or (world_after w) (event_told t w s) w

-- steps, the first of them first, each of which may be taken where it comes, and the world after them
abbrev pub MayBeTakenInTurn : Life → TraceView → World → List Step → Type 0
MayBeTakenInTurn life t w [] = Unit {0}
MayBeTakenInTurn life t w (s ∷ steps) = MayBeTaken life t w s × MayBeTakenInTurn life t (world_told t w s) steps

abbrev pub world_told_by : TraceView → World → List Step → World
world_told_by t w [] = w
world_told_by t w (s ∷ steps) = world_told_by t (world_told t w s) steps

-- a trace is of a life: it has its scale and as many disks as there are loggers, its files are of the version that is
-- written today, and its history is one that the book keeps
pub record IsTraceOf (life : Life) (t : TraceView) : Type 0 where
  pub version : life.version ≡ VERSION
  pub scale : t.scale ≡ life.first.scale
  pub loggers : length t.disks ≡ life.plan.loggers
  pub replays : Replays (life.past + 1) life.first t.history
  pub stamped : AreStamped t.history
  pub asked : All (λ e. e.terminal < MAX_TERMINALS) t.history
  pub loggable : All (IsLoggable life.first.scale) t.history

-- a log file stands there when its logger begins: its disk has done so many calls, and its text ends at this place; it
-- is of the trace's scale, at the mark at which the life begins, and nothing was appended to it yet
pub record IsStartOf (life : Life) (t : TraceView) (start : Start) (file : LogFileView DiskView) : Type 0 where
  pub calls : length file.disk.story ≡ start.calls
  pub end : file.end ≡ start.end
  pub scale : file.header.scale ≡ t.scale
  pub mark : file.last.mark ≡ life.plan.base
  pub count : file.count ≡ 0

-- the log files of a life stand so, by loggers
abbrev pub AreStarts : Life → TraceView → List Start → (ℕ → LogFileView DiskView) → Type 0
AreStarts life t starts files = (l : ℕ) → l < length t.disks → (d : Start)
    → IsStartOf life t (slice_index_or starts l d) (files l)

-- How values show a world: what the checker knows of it while it goes through a trace.
use Rattle.std.specs.Prelude.{◌≡◌, ◌↔◌, ℕ, ◌<◌, ◌≤◌, Bool, Option, Some, None, MatchOption, IfSome, Ok, IsTrue, List}
use Rattle.std.specs.Prelude.{length, take, slice_range, slice_index_or, map}
use Rattle.log_disk.specs.declared.memory_call.MemoryCall.{MemoryCall}
use Rattle.log_text.specs.Bodies.{BodyView, Entries}
use Rattle.book.specs.Batches.{BatchView}
use Rattle.book.specs.Streams.{stream}
use Rattle.book.specs.declared.entry.Entry.{Entry}
use Rattle.log_entries.specs.Logged.{logged_entry}
use Rattle.recover_crashes.specs.World.{Life, Stage, Flight, Idle, Flying, Logger, World}
use Rattle.recover_crashes.specs.World.{BatchTaken, TextWritten, TextSynced, GateOpened}
use Rattle.recover_crashes.specs.Events.{MayCall, called, on_disk, text_of}
use Rattle.traces.specs.declared.lane.Phase.{Phase}
use Rattle.traces.specs.declared.lane.Phase.TheVariants as phase
use Rattle.traces.specs.declared.lane.Batched.{Batched}
use Rattle.traces.specs.declared.lane.Lane.{Lane}
use Rattle.traces.specs.declared.follower.Follower.{Follower}
use Rattle.traces.specs.declared.step.Start.{Start}
use Rattle.traces.specs.declared.step.Step.{Step}
use Rattle.traces.specs.Told.{TraceView, disk_after, least_mark, MayBeTaken, world_told, IsTraceOf}

abbrev pub stage_of : Phase → Stage
stage_of phase.BatchTaken = BatchTaken
stage_of phase.TextWritten = TextWritten
stage_of phase.TextSynced = TextSynced
stage_of phase.GateOpened = GateOpened

-- the entries of a logger's stream between two places of the history
abbrev pub stream_between : TraceView → ℕ → ℕ → ℕ → List Entry
stream_between t logger from to = stream (length t.disks) logger (slice_range t.history from to)

-- and the body of a batch of them
abbrev pub body_between : TraceView → ℕ → ℕ → ℕ → ℕ → BodyView
body_between t logger mark from to = Entries mark (map (logged_entry t.scale) (stream_between t logger from to))

-- once it is written, a text's length is known
abbrev pub IsMeasured : Phase → ℕ → ℕ → Type 0
IsMeasured phase.BatchTaken told length = Unit {0}
IsMeasured phase.TextWritten told length = told ≡ length
IsMeasured phase.TextSynced told length = told ≡ length
IsMeasured phase.GateOpened told length = told ≡ length

-- a logger has this batch under way, behind so much of the history that is in its file
pub record IsBatched (t : TraceView) (logger taken : ℕ) (b : Batched) (flight : Flight) : Type 0 where
  pub batch : BatchView
  pub is : flight ≡ Flying (stage_of b.phase) batch
  pub mark : batch.mark ≡ b.mark
  pub scale : batch.scale ≡ t.scale
  pub entries : batch.entries ≡ stream_between t logger taken b.until
  pub rises : taken ≤ b.until
  pub measured : IsMeasured b.phase b.length (length (text_of (body_between t logger b.mark taken b.until)))

abbrev pub IsFlight : TraceView → ℕ → ℕ → Option Batched → Flight → Type 0
IsFlight t logger taken None flight = flight ≡ Idle
IsFlight t logger taken (Some b) flight = IsBatched t logger taken b flight

-- the values are those of a logger
pub record IsLane (t : TraceView) (logger : ℕ) (lane : Lane) (x : Logger) : Type 0 where
  pub calls : length x.file.disk.story ≡ lane.calls
  pub end : x.file.end ≡ lane.end
  pub scale : x.file.header.scale ≡ t.scale
  pub mark : x.file.last.mark ≡ lane.mark
  pub count : x.file.count ≡ length (stream (length t.disks) logger (take lane.taken t.history))
  pub flight : IsFlight t logger lane.taken lane.batched x.flight
  pub local : x.local ≡ lane.local
  pub loaded : length x.marks ≡ lane.loaded
  pub least : least_mark x.marks ≡ lane.least

-- the values of a logger that begins at this mark, with a log file that stands so
abbrev pub lane_at : ℕ → Start → Lane
lane_at base start = record {
  calls = start.calls;
  end = start.end;
  mark = base;
  local = base;
  taken = 0;
  loaded = 0;
  least = 0;
  batched = None;
}

-- so much of the history was committed when a lane's batches were taken
pub record IsWithinHistory (committed : ℕ) (lane : Lane) : Type 0 where
  pub taken : lane.taken ≤ committed
  pub until : IfSome lane.batched (λ b. b.until ≤ committed)

-- a lane's next call is this one: it may come where the lane is, and leads to these values; or it may not
abbrev pub IsCalledLane : TraceView → ℕ → Lane → Logger → MemoryCall → Lane → Type 0
IsCalledLane t logger old x call new = MayCall x.flight x.file (Ok tt) (disk_after x.file.disk call)
    × IsLane t logger new (called x.flight (Ok tt) (on_disk x.file (disk_after x.file.disk call)) x)
    × ((committed : ℕ) → IsWithinHistory committed old → IsWithinHistory committed new)

abbrev pub CallsLane : TraceView → ℕ → Lane → MemoryCall → Option Lane → Type 0
CallsLane t logger lane call next = (x : Logger) → IsLane t logger lane x
    → MatchOption next (MayCall x.flight x.file (Ok tt) (disk_after x.file.disk call) → ⊥)
    (IsCalledLane t logger lane x call)

-- the values are those of the world, of the loggers' part in it that a trace has
pub record ShowsWorld (t : TraceView) (f : Follower) (w : World) : Type 0 where
  pub epoch : w.epoch ≡ f.epoch
  pub found : w.found ≡ f.found
  pub durable : w.durable ≡ f.durable
  pub history : w.history ≡ take f.committed t.history
  pub within : f.committed ≤ length t.history
  pub count : length f.lanes.items ≡ length t.disks
  pub lanes : (l : ℕ) → l < length t.disks → (d : Lane) → IsLane t l (slice_index_or f.lanes.items l d) (w.logger l)
  pub behind : (l : ℕ) → l < length t.disks → (d : Lane)
      → IsWithinHistory f.committed (slice_index_or f.lanes.items l d)

-- what a step does, where it is one that may be taken: exactly then it is followed, and the values are those of the
-- world after it
pub record FollowsStep (t : TraceView) (s : Step) (old new : Follower) (followed : Bool) : Type 0 where
  pub exact : (life : Life) (w : World) → IsTraceOf life t → ShowsWorld t old w
      → IsTrue followed ↔ MayBeTaken life t w s
  pub shown : (w : World) → ShowsWorld t old w → IsTrue followed → ShowsWorld t new (world_told t w s)

-- The moments of a trace: what its steps come to, up to any of them.
use Rattle.std.specs.Prelude.{◌≡◌, ℕ, ◌+◌, ◌<◌, ◌==◌, Bool, true, false, Some, List, length, take, filter}
use Rattle.std.specs.List.{Contains, slice_get}
use Rattle.book.specs.declared.entry.Entry.{Entry}
use Rattle.recover_crashes.specs.World.{Life, World}
use Rattle.recover_crashes.specs.Events.{Event, MayHappenInTurn, world_after_all}
use Rattle.traces.specs.declared.step.Step.{Step}
use Rattle.traces.specs.declared.step.Step.TheVariants as step
use Rattle.traces.specs.Told.{TraceView, calls_of, world_told_by}
use Rattle.traces.specs.First.{disk_by}

-- steps are a list of the crash world's events, one for each, and each may happen where it does
pub record AreEvents (life : Life) (t : TraceView) (w : World) (steps : List Step) : Type 0 where
  pub events : List Event
  pub one_each : length events ≡ length steps
  pub happen : MayHappenInTurn life w events
  pub lead : world_after_all w events ≡ world_told_by t w steps

-- a step is a commit, and a call of this logger's disk
abbrev pub is_commit : Step → Bool
is_commit step.Commit = true
is_commit (step.Take logger mark) = false
is_commit step.Advance = false
is_commit (step.Call logger) = false
is_commit (step.Confirm logger) = false
is_commit (step.LoadMark logger) = false
is_commit (step.RaiseDurable logger) = false
is_commit (step.Release place) = false

abbrev pub is_call_of : ℕ → Step → Bool
is_call_of logger step.Commit = false
is_call_of logger (step.Take own mark) = false
is_call_of logger step.Advance = false
is_call_of logger (step.Call own) = own == logger
is_call_of logger (step.Confirm own) = false
is_call_of logger (step.LoadMark own) = false
is_call_of logger (step.RaiseDurable own) = false
is_call_of logger (step.Release place) = false

-- a world has what these steps of a first life tell of a trace: as much of the history as there are commits among them;
-- each disk as the calls leave it that made the file, and those among the steps; and each reply that they release
pub record IsAsRecorded (t : TraceView) (steps : List Step) (w : World) : Type 0 where
  pub history : w.history ≡ take (length (filter is_commit steps)) t.history
  pub disks : (l : ℕ) → l < length t.disks
      → (w.logger l).file.disk ≡ disk_by (take (2 + length (filter (is_call_of l) steps)) (calls_of t l))
  pub released : (place : ℕ) → Contains steps (step.Release place) → (e : Entry) → slice_get t.history place ≡ Some e
      → Contains w.released e

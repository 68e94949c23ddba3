-- First lives: log files that a trace's disks show to be new.
use Rattle.std.specs.Prelude.{◌≡◌, ℕ, ◌+◌, ◌<◌, ◌≤◌, Some, List, [], ◌∷◌, ◌++◌, length, take}
use Rattle.std.specs.List.{slice_get}
use Rattle.log_disk.specs.declared.memory_call.MemoryCall.{MemoryCall}
use Rattle.log_disk.specs.declared.memory_call.MemoryCall.TheVariants.{Sync}
use Rattle.log_disk.specs.Memory.{IsWriteOf, Replay, replayed_calls}
use Rattle.log_header.specs.Header.{HeaderView, IsHeader, header_text, header_view}
use Rattle.logfile.specs.Standing.{LogFileView}
use Rattle.recover_crashes.specs.World.{Life, DiskView, IsFirst, opening}
use Rattle.traces.specs.declared.step.Start.{Start}
use Rattle.traces.specs.declared.step.Step.{Step}
use Rattle.traces.specs.Told.{TraceView, calls_of, MayBeTakenInTurn}

-- the header of a logger's new file, and the text of the file: a closed gate behind that
abbrev pub new_header : TraceView → ℕ → ℕ → HeaderView
new_header t seed logger = header_view logger (length t.disks) t.scale seed

abbrev pub new_text : TraceView → ℕ → ℕ → List ℕ
new_text t seed logger = header_text (new_header t seed logger) ++ 0 ∷ []

-- a logger's disk begins with the two calls that make its log file, which then stands so: its text is written, and
-- synced
pub record IsMade (t : TraceView) (seed logger : ℕ) (start : Start) : Type 0 where
  pub header : IsHeader (new_header t seed logger)
  pub first : MemoryCall
  pub begins : slice_get (calls_of t logger) 0 ≡ Some first
  pub writes : IsWriteOf 0 (new_text t seed logger) first
  pub syncs : slice_get (calls_of t logger) 1 ≡ Some Sync
  pub calls : start.calls ≡ 2
  pub end : start.end + 1 ≡ length (new_text t seed logger)

-- a disk on which these calls were done
abbrev pub disk_by : List MemoryCall → DiskView
disk_by calls =
    let r : Replay = replayed_calls calls in
    record { seen = r.bytes; story = r.story }

-- steps of a first life: each logger's file was just made, by the first two calls of its disk, and the steps may be
-- taken one after another from there
pub record AreOfFirstLife (life : Life) (t : TraceView) (steps : List Step) : Type 0 where
  pub files : ℕ → LogFileView DiskView
  pub first : IsFirst life files
  pub made : (l : ℕ) → l < length t.disks → 2 ≤ length (calls_of t l)
  pub disks : (l : ℕ) → l < length t.disks → (files l).disk ≡ disk_by (take 2 (calls_of t l))
  pub taken : MayBeTakenInTurn life t (opening life.plan files) steps

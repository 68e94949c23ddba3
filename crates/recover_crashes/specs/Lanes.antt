-- A logger's lane: its stream is what its file has, what is on its way there, and what waits; and how its disk stands
-- while a body is appended.
use Rattle.std.specs.Prelude.{◌≡◌, ◌≢◌, ℕ, ◌+◌, ◌<◌, ◌≤◌, Some, List, [], ◌∷◌, ◌++◌, length, map, flat_map}
use Rattle.std.specs.List.{All}
use Rattle.tidword.specs.TidWord.{epoch_of}
use Rattle.log_disk.specs.Crashes.{Leaves}
use Rattle.log_header.specs.Header.{HeaderView, IsHeader, header_text}
use Rattle.log_text.specs.Bodies.{BodyView, bodies_after, start}
use Rattle.log_text.specs.File.{opened}
use Rattle.book.specs.Batches.{BatchView, IsBatch}
use Rattle.book.specs.Streams.{last_number}
use Rattle.book.specs.declared.entry.Entry.{Entry}
use Rattle.log_entries.specs.Logged.{logged_entry}
use Rattle.log_entries.specs.Following.{IsOfVersion, body_of_batch, Continues}
use Rattle.logfile.specs.Staged.{IsSettled, HasGate, IsStaged}
use Rattle.logfile.specs.Standing.{LogFileView, Stands}
use Rattle.recover_found.specs.Found.{entries_of}
use Rattle.recover_crashes.specs.World.{DiskView, Stage, BatchTaken, TextWritten, TextSynced, GateOpened, DeviceFailed, Flight, Idle, Flying}
use Rattle.recover_crashes.specs.Events.{text_of}

-- what stands in front of the gate that ends a file's text
abbrev pub file_front : HeaderView → List BodyView → List ℕ
file_front h bodies = header_text h ++ opened bodies

-- the file stands behind these bodies, and the gate that ends its text has its place
pub record IsPlaced (h : HeaderView) (bodies : List BodyView) (file : LogFileView DiskView) : Type 0 where
  pub header : IsHeader h
  pub lawful : bodies_after h start bodies ≡ Some file.last
  pub place : length (file_front h bodies) ≡ file.end

-- what a read gives at each stage, and whether a crash leaves just that
abbrev pub IsDiskReady : Stage → ℕ → List ℕ → ℕ → List ℕ → DiskView → Type 0
IsDiskReady BatchTaken end front gate text d = IsSettled d.seen d.story × ((rest : List ℕ) × HasGate end front gate rest d.seen)
IsDiskReady TextWritten end front gate text d = (rest : List ℕ) × HasGate end front gate (text ++ rest) d.seen
IsDiskReady TextSynced end front gate text d = IsSettled d.seen d.story × ((rest : List ℕ) × HasGate end front gate (text ++ rest) d.seen)
IsDiskReady GateOpened end front gate text d = (rest : List ℕ) × (d.seen ≡ front ++ 1 ∷ (text ++ rest))
IsDiskReady DeviceFailed end front gate text d = Unit {0}

-- a body is on its way into the file
pub record IsFlying (h : HeaderView) (bodies : List BodyView) (stage : Stage) (body : BodyView) (file : LogFileView DiskView) : Type 0 where
  pub placed : IsPlaced h bodies file
  pub gate : ℕ
  pub closed : gate ≢ 1
  pub leaves : Leaves (IsStaged (file_front h bodies) gate (text_of body)) file.disk.story
  pub ready : IsDiskReady stage file.end (file_front h bodies) gate (text_of body) file.disk

abbrev pub FitsDisk : HeaderView → List BodyView → Flight → LogFileView DiskView → Type 0
FitsDisk h bodies Idle file = Stands h bodies file.end file.last file.disk.seen file.disk.story
FitsDisk h bodies (Flying stage batch) file = IsFlying h bodies stage (body_of_batch batch) file

-- the entries of batches, and of the one under way
abbrev pub taken_in : List BatchView → List Entry
taken_in batches = flat_map (λ b. b.entries) batches

abbrev pub flying : Flight → List Entry
flying Idle = []
flying (Flying stage batch) = batch.entries

abbrev pub bodies_of : List BatchView → List BodyView
bodies_of batches = map body_of_batch batches

abbrev pub IsAbove : ℕ → Entry → Type 0
IsAbove mark e = mark < epoch_of e.tid

-- a batch that is under way: it goes on where the file ends, its entries may stand there, and what waits is above its mark
pub record IsNextBatch (found : ℕ) (waiting : List Entry) (batch : BatchView) (file : LogFileView DiskView) : Type 0 where
  pub is_batch : IsBatch batch
  pub continues : Continues file.header file.count file.number file.last batch
  pub versions : All (IsOfVersion file.header.version file.header.scale) batch.entries
  pub low : batch.mark < found
  pub above : All (IsAbove batch.mark) waiting

abbrev pub FitsNextBatch : ℕ → List Entry → Flight → LogFileView DiskView → Type 0
FitsNextBatch found waiting Idle file = Unit {0}
FitsNextBatch found waiting (Flying stage batch) file = IsNextBatch found waiting batch file

-- a logger's file, what it has under way and its local mark fit its stream, of which these batches came into the file behind the old bodies
pub record FitsLane (h : HeaderView) (past found : ℕ) (entries : List Entry) (old : List BodyView) (landed : List BatchView)
    (file : LogFileView DiskView) (flight : Flight) (local : ℕ) : Type 0 where
  pub header : file.header ≡ h
  pub disk : FitsDisk h (old ++ bodies_of landed) flight file
  pub waiting : List Entry
  pub all : entries ≡ taken_in landed ++ (flying flight ++ waiting)
  pub count : file.count ≡ length (taken_in landed)
  pub number : file.number ≤ last_number past (taken_in landed)
  pub logged : entries_of (bodies_of landed) ≡ map (logged_entry h.scale) (taken_in landed)
  pub near : file.last.epoch ≤ file.last.mark + 1
  pub low : file.last.mark < found
  pub above : All (IsAbove file.last.mark) (flying flight ++ waiting)
  pub next : FitsNextBatch found waiting flight file
  pub kept : local ≤ file.last.mark

-- What may happen over many lives, and what it does: all that may happen within a life, its end, crashes, and restarts.
use Rattle.std.specs.Prelude.{◌≡◌, ℕ, ◌+◌, ◌<◌, ◌≤◌, ◌^◌, ◌==◌, if◌then◌else◌, true, false, Result, Ok, Err}
use Rattle.std.specs.Prelude.{List, [], ◌∷◌, length}
use Rattle.std.specs.List.{All}
use Rattle.money.specs.declared.refusal.Refusal.{Refusal}
use Rattle.tables.specs.Database.{Database}
use Rattle.tidword.specs.TidWord.{epoch_of}
use Rattle.board.specs.Words.{last_epoch}
use Rattle.log_disk.specs.Calls.{Synced}
use Rattle.log_disk.specs.Crashes.{MayLeave}
use Rattle.log_text.specs.Bodies.{BodyView, Void, marked}
use Rattle.logfile.specs.Standing.{LogFileView}
use Rattle.recover_found.specs.Found.{last_mark, entries_of, void_in, found}
use Rattle.recover_found.specs.Rebuilt.{IsRebuilt}
use Rattle.recover_crashes.specs.World.{Life, DiskView, BatchTaken, TextWritten, TextSynced, GateOpened}
use Rattle.recover_crashes.specs.World.{DeviceFailed, opening, IsOpened}
use Rattle.recover_crashes.specs.Events.{Event, MayHappen, world_after, IsCalled, text_of, on_disk}
use Rattle.recover_crashes.specs.Recovering.{IsDurable, counts_in, cut}
use Rattle.recover_laws.specs.Found.{listed}
use Rattle.recover_lives.specs.World.{Origin, header_at, Declaring, Waits, Declares, Declared, Lives, Down, Restarting}
use Rattle.recover_lives.specs.World.{Running, joined_history, released_by, durable_at, disk_at}

-- an event of the life that runs; the end of a process, which leaves the disks as they are; a crash, which leaves these
-- strings; a sync of a disk before it is read. Of a restart: all files are read; a file is to get the void body; one
-- write or one sync of its device, with this result, which leaves the disk so; and the next life begins
pub data LivesEvent : Type 0 where
  Within : (event : Event) → LivesEvent
  Stop : LivesEvent
  Crash : (strings : ℕ → List ℕ) → LivesEvent
  SyncDisk : (logger : ℕ) (disk : DiskView) → LivesEvent
  Read : (old : ℕ → List BodyView) (durable top : ℕ) (files : ℕ → LogFileView DiskView) → LivesEvent
  Declare : (logger : ℕ) → LivesEvent
  CallVoid : (logger : ℕ) (result : Result (Unit {0}) Refusal) (disk : DiskView) → LivesEvent
  Open : (life : Life) → LivesEvent

-- a crash may leave these strings of bytes, by the loggers' numbers
abbrev pub MayStrike : Origin → Lives → (ℕ → List ℕ) → Type 0
MayStrike o w strings = (l : ℕ) → l < o.loggers → MayLeave (disk_at w l).story (strings l)

-- a disk before a sync that is done and after it: what a read gives is what a crash may leave
pub record IsSyncedDisk (old new : DiskView) : Type 0 where
  pub gives : MayLeave old.story old.seen
  pub seen : new.seen ≡ old.seen
  pub story : new.story ≡ Synced old.seen ∷ old.story

-- files have nothing above this epoch: no mark, no entry's epoch and no void epoch
pub record IsTop (loggers : ℕ) (files : ℕ → List BodyView) (top : ℕ) : Type 0 where
  pub marks : (l : ℕ) → l < loggers → last_mark 0 (files l) ≤ top
  pub entries : (l : ℕ) → l < loggers → All (λ e. epoch_of e.tid ≤ top) (entries_of (files l))
  pub voids : (l : ℕ) → l < loggers → (epoch : ℕ) → top < epoch → void_in (files l) epoch ≡ false

-- a restart reads all files, each on a disk that was synced; it finds their durable epoch, and an epoch above which
-- they have nothing, behind which there are more
pub record FilesAreRead (o : Origin) (disks : ℕ → DiskView) (old : ℕ → List BodyView) (durable top : ℕ)
    (files : ℕ → LogFileView DiskView) : Type 0 where
  pub opened : (l : ℕ) → l < o.loggers → IsOpened (header_at o l) (old l) (files l)
  pub disk : (l : ℕ) → l < o.loggers → (files l).disk ≡ disks l
  pub gives : (l : ℕ) → l < o.loggers → MayLeave (disks l).story (disks l).seen
  pub short : (l : ℕ) → l < o.loggers → length (disks l).seen < 2 ^ 64
  pub is_durable : IsDurable o.loggers old durable
  pub is_top : IsTop o.loggers old top
  pub room : top < last_epoch

-- the body by which a restart gives up all epochs behind the durable one: their entries count no more, in any file
abbrev pub void_body : ℕ → ℕ → BodyView
void_body durable top = Void (durable + 1) top

-- the call of the device that comes next, where the void body is under way
abbrev pub MayDeclare : Declaring → BodyView → LogFileView DiskView → Result (Unit {0}) Refusal → DiskView → Type 0
MayDeclare Waits body file result disk = ⊥
MayDeclare (Declares stage) body file result disk = IsCalled stage body file result disk
MayDeclare Declared body file result disk = ⊥

-- recovery gives these tables and number of commits, of what counts in files
pub record RecoveryGives (o : Origin) (files : ℕ → List BodyView) (tables : Database) (commits : ℕ) : Type 0 where
  pub rebuilt : IsRebuilt o.first (found (listed o.loggers files)) tables
  pub commits_found : commits ≡ length (found (listed o.loggers files))

-- a life may begin, in files of the same version: with the tables that recovery gives, behind the epoch above which the
-- files have nothing; and all epochs between the durable one and that are declared void, in every file
pub record MayOpen (o : Origin) (old : ℕ → List BodyView) (durable top : ℕ) (steps : ℕ → Declaring) (life : Life)
    : Type 0 where
  pub gives : RecoveryGives o old life.first life.past
  pub version : life.version ≡ o.version
  pub seed : life.seed ≡ o.seed
  pub loggers : life.plan.loggers ≡ o.loggers
  pub base : life.plan.base ≡ top
  pub declared : (l : ℕ) → l < o.loggers → durable < top → steps l ≡ Declared

-- where each event may happen
abbrev pub MayOccur : Origin → Lives → LivesEvent → Type 0
MayOccur o (Running life past earlier now) (Within event) = MayHappen life now event
MayOccur o (Running life past earlier now) Stop = Unit {0}
MayOccur o (Restarting old durable top files steps history released) Stop = Unit {0}
MayOccur o w (Crash strings) = MayStrike o w strings
MayOccur o (Down disks durable history released) (SyncDisk logger disk) =
    (logger < o.loggers) × IsSyncedDisk (disks logger) disk
MayOccur o (Down disks durable history released) (Read old found top files) = FilesAreRead o disks old found top files
MayOccur o (Restarting old durable top files steps history released) (Declare logger) =
    (logger < o.loggers) × (steps logger ≡ Waits) × (durable < top)
MayOccur o (Restarting old durable top files steps history released) (CallVoid logger result disk) =
    (logger < o.loggers) × MayDeclare (steps logger) (void_body durable top) (files logger) result disk
MayOccur o (Restarting old durable top files steps history released) (Open life) = MayOpen o old durable top steps life
MayOccur o w event = ⊥

-- another value at one number
abbrev pub with_one : {X : Type 0} → (ℕ → X) → ℕ → X → ℕ → X
with_one f k x l = if l == k then x else f l

-- a file that has this void body, and stands behind it
abbrev pub with_void : LogFileView DiskView → BodyView → ℕ → LogFileView DiskView
with_void file body top = record file {
  end = file.end + length (text_of body);
  last = marked top file.last;
}

-- a step of a restart and its file, after a call with this result
abbrev pub step_after : Declaring → Result (Unit {0}) Refusal → Declaring
step_after (Declares BatchTaken) (Ok _) = Declares TextWritten
step_after (Declares TextWritten) (Ok _) = Declares TextSynced
step_after (Declares TextSynced) (Ok _) = Declares GateOpened
step_after (Declares GateOpened) (Ok _) = Declared
step_after (Declares DeviceFailed) (Ok _) = Declares DeviceFailed
step_after (Declares stage) (Err _) = Declares DeviceFailed
step_after Waits result = Waits
step_after Declared result = Declared

abbrev pub file_after : Declaring → Result (Unit {0}) Refusal → BodyView → ℕ → LogFileView DiskView
    → LogFileView DiskView
file_after (Declares GateOpened) (Ok _) body top file = with_void file body top
file_after (Declares stage) (Ok _) body top file = file
file_after (Declares stage) (Err _) body top file = record file { failed = true }
file_after Waits result body top file = file
file_after Declared result body top file = file

-- disks as a crash leaves them
abbrev pub struck : (ℕ → List ℕ) → ℕ → DiskView
struck strings l = record { seen = strings l; story = Synced (strings l) ∷ [] }

-- what each event does; it means something where the event may happen
abbrev pub lives_after : Origin → Lives → LivesEvent → Lives
lives_after o (Running life past earlier now) (Within event) = Running life past earlier (world_after now event)
lives_after o w Stop = Down (disk_at w) (durable_at w) (joined_history w) (released_by w)
lives_after o w (Crash strings) = Down (struck strings) (durable_at w) (joined_history w) (released_by w)
lives_after o (Down disks durable history released) (SyncDisk logger disk) =
    Down (with_one disks logger disk) durable history released
lives_after o (Down disks durable history released) (Read old found top files) =
    Restarting old found top files (λ l. Waits) history released
lives_after o (Restarting old durable top files steps history released) (Declare logger) =
    Restarting old durable top files (with_one steps logger (Declares BatchTaken)) history released
lives_after o (Restarting old durable top files steps history released) (CallVoid logger result disk) =
    Restarting old durable top
    (with_one files logger
    (file_after (steps logger) result (void_body durable top) top (on_disk (files logger) disk)))
    (with_one steps logger (step_after (steps logger) result)) history released
lives_after o (Restarting old durable top files steps history released) (Open life) =
    Running life (cut (counts_in o.loggers old durable) history) released (opening life.plan files)
lives_after o w event = w

-- a list of events, oldest first, each of which may happen where it does, and the world after them
abbrev pub MayOccurInTurn : Origin → Lives → List LivesEvent → Type 0
MayOccurInTurn o w [] = Unit {0}
MayOccurInTurn o w (event ∷ events) = MayOccur o w event × MayOccurInTurn o (lives_after o w event) events

abbrev pub lives_after_all : Origin → Lives → List LivesEvent → Lives
lives_after_all o w [] = w
lives_after_all o w (event ∷ events) = lives_after_all o (lives_after o w event) events

-- What a restart gives, and when it is refused.
use Rattle.std.specs.Prelude.{◌≡◌, ◌⊎◌, ℕ, ◌+◌, ◌<◌, ◌≤◌, List, length, map, slice_index_or}
use Rattle.money.specs.declared.refusal.Refusal.{Refusal}
use Rattle.money.specs.declared.refusal.Refusal.TheVariants.{Device}
use Rattle.tables.specs.Database.{Database}
use Rattle.tables.specs.Sizes.{Sizes}
use Rattle.board.specs.Words.{last_epoch}
use Rattle.book.specs.Parts.{first_of, ArePartsOf}
use Rattle.book.specs.declared.parts.Parts.{Parts}
use Rattle.log_disk.specs.Calls.{Call}
use Rattle.log_header.specs.Header.{header_view}
use Rattle.log_text.specs.Bodies.{BodyView, marked}
use Rattle.logfile.specs.Called.{StoreLeft}
use Rattle.logfile.specs.Standing.{LogFileView}
use Rattle.recover_found.specs.Found.{durable_of, found}
use Rattle.recover_found.specs.Rebuilt.{HaveNoGap, IsRebuilt}
use Rattle.recover_files.specs.Files.{AreFiles, AreNoFiles, AreShort, DeviceHasFailed}
use Rattle.recover_crashes.specs.Events.{text_of}
use Rattle.recover_crashes.specs.World.{DiskView}
use Rattle.recover_lives.specs.Events.{void_body}
use Rattle.recover_opening.specs.Opening.{AreGivenBack, AreOpenBehind, AreOpened, disk_on, file_on}
use Rattle.recover_opening.specs.Tops.{IsTopOfAll}
use Rattle.recover_sound.specs.Sound.{AreSoundTables}
use Rattle.recover_restart.specs.Basing.{AreUnsound}
use Rattle.recover_restart.specs.Declaring.{AreDeclared, device_failure, no_failure}

-- parts with which an engine goes on behind files of these bodies: its tables are rebuilt of what counts there, and such
-- as so many commits can have made; it goes on behind as many, and behind the last epoch of which the files have
-- anything, up to which all behind the durable one are to be given up
pub record GoesOnBehind (t0 : Database) (seed loggers terminals : ℕ) (files : List (List BodyView)) (parts : Parts)
    (durable top commits : ℕ) : Type 0 where
  pub durable_is : durable ≡ durable_of files
  pub is_top : IsTopOfAll files top
  pub room : top < last_epoch
  pub rebuilt : IsRebuilt t0 (found files) (first_of parts)
  pub commits_are : commits ≡ length (found files)
  pub sound : AreSoundTables commits (first_of parts)
  pub are_parts : ArePartsOf t0 (first_of parts) seed commits top loggers terminals parts

-- files behind whose durable epoch all is to be given up: they are open behind bodies behind which an engine goes on,
-- so that nothing can refuse it any more but a device
pub record MayGiveUp {D : Type 0} (durable top : ℕ) (files : List (LogFileView D)) : Type 0 where
  pub first : Database
  pub seed : ℕ
  pub loggers : ℕ
  pub terminals : ℕ
  pub bodies : List (List BodyView)
  pub parts : Parts
  pub commits : ℕ
  pub behind : AreOpenBehind first.scale seed loggers files bodies
  pub goes_on : GoesOnBehind first seed loggers terminals bodies parts durable top commits

-- a file has got the void body of a restart, by the calls of an append
pub record HasLost (durable top : ℕ) (old new : LogFileView DiskView) : Type 0 where
  pub header : new.header ≡ old.header
  pub last : new.last ≡ marked top old.last
  pub count : new.count ≡ old.count
  pub number : new.number ≡ old.number
  pub failed : new.failed ≡ old.failed
  pub end : new.end ≡ old.end + length (text_of (void_body durable top))
  pub calls : StoreLeft no_failure old.end (text_of (void_body durable top)) old.disk.seen old.disk.story new.disk.seen
      new.disk.story

-- each has, where there is an epoch to give up; where there is none they stand as they stood
pub record HaveLost (durable top : ℕ) (old new : List (LogFileView DiskView)) : Type 0 where
  pub count : length new ≡ length old
  pub some : durable < top → (l : ℕ) (d : LogFileView DiskView) → l < length old
      → HasLost durable top (slice_index_or old l d) (slice_index_or new l d)
  pub none : top ≤ durable → new ≡ old

-- a database goes on from these strings of bytes, which are its log files: with these parts, behind what counts there, in
-- the epoch behind the last one of which they have anything
pub record GoesOnFrom (t0 : Database) (seed loggers terminals : ℕ) (strings : List (List ℕ)) (parts : Parts)
    (commits epoch : ℕ) : Type 0 where
  pub files : List (List BodyView)
  pub durable : ℕ
  pub top : ℕ
  pub read : AreFiles t0.scale seed strings files
  pub goes_on : GoesOnBehind t0 seed loggers terminals files parts durable top commits
  pub epoch_is : epoch ≡ top + 1

-- log files stand at one mark, each as that of its logger, of so many
pub record StandAt {D : Type 0} (s : Sizes) (seed loggers mark : ℕ) (files : List (LogFileView D)) : Type 0 where
  pub count : length files ≡ loggers
  pub each : (l : ℕ) → l < loggers → (file : LogFileView D)
      → ((slice_index_or files l file).header ≡ header_view l loggers s seed)
      × ((slice_index_or files l file).last.mark ≡ mark)

-- where there is an epoch to give up, each of some files has got a mark; where there is none they stand as they stood
pub record HaveMoved {D : Type 0} (durable top : ℕ) (old new : List (LogFileView D)) : Type 0 where
  pub count : length new ≡ length old
  pub some : durable < top → (l : ℕ) (file : LogFileView D) → l < length old
      → ((slice_index_or new l file).header ≡ (slice_index_or old l file).header)
      × ((slice_index_or new l file).last ≡ marked top (slice_index_or old l file).last)
  pub none : top ≤ durable → new ≡ old

-- a restart on these disks: it has opened their files, and goes on behind the bodies that stand there; and in each it
-- has declared void what was lost
pub record IsRestart (t0 : Database) (seed terminals : ℕ) (disks : List DiskView) (parts : Parts)
    (files : List (LogFileView DiskView)) (commits epoch : ℕ) : Type 0 where
  pub old : List (LogFileView DiskView)
  pub bodies : List (List BodyView)
  pub durable : ℕ
  pub top : ℕ
  pub opened : AreOpened t0.scale seed disks old bodies
  pub goes_on : GoesOnBehind t0 seed (length disks) terminals bodies parts durable top commits
  pub lost : HaveLost durable top old files
  pub epoch_is : epoch ≡ top + 1

-- open files behind which a database goes on, which a device has stopped while epochs were given up: those in front have
-- the void body, the one whose device failed is as an append leaves it, and those behind stand as they stood
pub record AreStopped {D : Type 0} (IsModelled : Type 0) (seen_of : D → List ℕ) (story_of : D → List Call)
    (failed_of : D → ℕ) (t0 : Database) (seed loggers terminals : ℕ) (bodies : List (List BodyView))
    (old new : List (LogFileView D)) : Type 0 where
  pub parts : Parts
  pub durable : ℕ
  pub top : ℕ
  pub commits : ℕ
  pub goes_on : GoesOnBehind t0 seed loggers terminals bodies parts durable top commits
  pub some : durable < top
  pub declared : AreDeclared IsModelled seen_of story_of failed_of (durable + 1) top device_failure old new

-- a restart that a device has stopped so: it has opened the files on these disks, and those that it gives back are theirs
pub record HasStopped {D : Type 0} (IsModelled : Type 0) (seen_of : D → List ℕ) (story_of : D → List Call)
    (failed_of : D → ℕ) (t0 : Database) (seed terminals : ℕ) (old new : List D) : Type 0 where
  pub opened : List (LogFileView D)
  pub left : List (LogFileView D)
  pub bodies : List (List BodyView)
  pub are_opened : IsModelled → AreOpened t0.scale seed (map (disk_on seen_of story_of) old)
      (map (file_on seen_of story_of) opened) bodies
  pub are_stopped : AreStopped IsModelled seen_of story_of failed_of t0 seed (length old) terminals bodies opened left
  pub disks : new ≡ map (λ file. file.disk) left
  pub failed : DeviceHasFailed (map failed_of old) (map failed_of new)

-- the disks that a refused restart gives back: nothing was written; or it was by `Device`, while epochs were given up
abbrev pub IsRefusedRestart : {D : Type 0} → Type 0 → (D → List ℕ) → (D → List Call) → (D → ℕ) → Database → ℕ → ℕ
    → Refusal → List D → List D → Type 0
IsRefusedRestart IsModelled seen_of story_of failed_of t0 seed terminals refusal old new =
    AreGivenBack IsModelled seen_of story_of failed_of refusal old new
    ⊎ ((refusal ≡ Device)
    × HasStopped IsModelled seen_of story_of failed_of t0 seed terminals old new)

-- strings of bytes are log files of such a database, in the version that is written today, of which this is so
pub record AreFilesThat (s : Sizes) (seed : ℕ) (strings : List (List ℕ)) (Holds : List (List BodyView) → Type 0)
    : Type 0 where
  pub files : List (List BodyView)
  pub short : AreShort strings
  pub read : AreFiles s seed strings files
  pub holds : Holds files

-- a commit that counts in files is missing, or stands twice
abbrev pub HaveAGap : List (List BodyView) → Type 0
HaveAGap files = HaveNoGap (found files) → ⊥

-- no commit that counts in files is missing, but they have something of the last epoch that there is
pub record HaveLastEpoch (files : List (List BodyView)) : Type 0 where
  pub no_gap : HaveNoGap (found files)
  pub top : ℕ
  pub is_top : IsTopOfAll files top
  pub last : last_epoch ≤ top

-- no commit is missing, and they have nothing of it; but tables that are rebuilt of what counts there are none that so
-- many commits can have made
pub record GiveUnsoundTables (t0 : Database) (files : List (List BodyView)) : Type 0 where
  pub no_gap : HaveNoGap (found files)
  pub top : ℕ
  pub is_top : IsTopOfAll files top
  pub room : top < last_epoch
  pub tables : AreUnsound t0 files

-- strings of bytes are no log files of a database that began with these tables, in the version that is written today, or
-- they give unsound ones
abbrev pub AreDamagedOrUnsound : Database → ℕ → List (List ℕ) → Type 0
AreDamagedOrUnsound t0 seed strings = AreNoFiles t0.scale seed strings
    ⊎ AreFilesThat t0.scale seed strings (GiveUnsoundTables t0)

-- strings of bytes that a restart takes up: it refuses them neither as damaged nor for a gap
pub record AreTakenUp (t0 : Database) (seed : ℕ) (strings : List (List ℕ)) : Type 0 where
  pub undamaged : AreDamagedOrUnsound t0 seed strings → ⊥
  pub no_gap : AreFilesThat t0.scale seed strings HaveAGap → ⊥

-- Log files of a database that are opened again.
use Rattle.std.specs.Prelude.{◌≡◌, ℕ, ◌+◌, ◌<◌, ◌≤◌, ◌^◌, false, Some, List, [], ◌∷◌, length, map, slice_index_or}
use Rattle.money.specs.declared.refusal.Refusal.{Refusal}
use Rattle.money.specs.declared.refusal.Refusal.TheVariants.{Device}
use Rattle.tables.specs.Sizes.{Sizes}
use Rattle.log_disk.specs.Calls.{Call, Synced}
use Rattle.log_disk.specs.Crashes.{MayLeave}
use Rattle.log_header.specs.Header.{HeaderView, header_view}
use Rattle.log_text.specs.Bodies.{BodyView, bodies_after, start}
use Rattle.log_text.specs.File.{IsFileTo}
use Rattle.logfile.specs.Refused.{IsOnlySynced}
use Rattle.logfile.specs.Standing.{LogFileView, Stands}
use Rattle.recover_files.specs.Files.{DeviceHasFailed}
use Rattle.recover_crashes.specs.World.{DiskView, IsOpened}

-- a disk, and a file on one, as worlds in which crashes happen have them
abbrev pub disk_on : {D : Type 0} → (D → List ℕ) → (D → List Call) → D → DiskView
disk_on seen_of story_of disk = record { seen = seen_of disk; story = story_of disk }

abbrev pub file_on : {D : Type 0} → (D → List ℕ) → (D → List Call) → LogFileView D → LogFileView DiskView
file_on seen_of story_of file = record {
  disk = disk_on seen_of story_of file.disk;
  header = file.header;
  end = file.end;
  last = file.last;
  count = file.count;
  number = file.number;
  failed = file.failed;
}

-- a disk before one sync more and after it, if it is modelled
pub record IsSyncedOnce {D : Type 0} (IsModelled : Type 0) (seen_of : D → List ℕ) (story_of : D → List Call)
    (failed_of : D → ℕ) (old new : D) : Type 0 where
  pub seen : IsModelled → seen_of new ≡ seen_of old
  pub story : IsModelled → story_of new ≡ Synced (seen_of old) ∷ story_of old
  pub failed : failed_of new ≡ failed_of old

-- all of some disks, before a sync of each and after it
pub record AreSynced {D : Type 0} (IsModelled : Type 0) (seen_of : D → List ℕ) (story_of : D → List Call)
    (failed_of : D → ℕ) (old new : List D) : Type 0 where
  pub count : length new ≡ length old
  pub each : (l : ℕ) → l < length old → (disk : D)
      → IsSyncedOnce IsModelled seen_of story_of failed_of (slice_index_or old l disk) (slice_index_or new l disk)

-- a file of this header is open behind these bodies: to it nothing is appended yet, and its device hasn't failed
pub record IsOpenBehind {D : Type 0} (h : HeaderView) (bodies : List BodyView) (file : LogFileView D) : Type 0 where
  pub header : file.header ≡ h
  pub count : file.count ≡ 0
  pub number : file.number ≡ 0
  pub usable : file.failed ≡ false
  pub near : file.last.epoch ≤ file.last.mark + 1
  pub lawful : bodies_after h start bodies ≡ Some file.last

-- a disk's file is opened again: the disk was synced, and these bytes were read, which are a file of these bodies
pub record IsReopened {D : Type 0} (IsModelled : Type 0) (seen_of : D → List ℕ) (story_of : D → List Call)
    (failed_of : D → ℕ) (h : HeaderView) (disk : D) (bytes : List ℕ) (file : LogFileView D) (bodies : List BodyView)
    : Type 0 where
  pub behind : IsOpenBehind h bodies file
  pub read : IsFileTo bytes h bodies file.last file.end
  pub short : length bytes < 2 ^ 64
  pub modelled : IsModelled → bytes ≡ seen_of disk
  pub stands : IsModelled → Stands h bodies file.end file.last (seen_of file.disk) (story_of file.disk)
  pub synced : IsSyncedOnce IsModelled seen_of story_of failed_of disk file.disk

-- each of some disks is opened again so, as the file of its logger, of so many
pub record AreReopened {D : Type 0} (IsModelled : Type 0) (seen_of : D → List ℕ) (story_of : D → List Call)
    (failed_of : D → ℕ) (s : Sizes) (seed loggers : ℕ) (disks : List D) (files : List (LogFileView D))
    (bodies : List (List BodyView)) : Type 0 where
  pub strings : List (List ℕ)
  pub strings_count : length strings ≡ length disks
  pub files_count : length files ≡ length disks
  pub bodies_count : length bodies ≡ length disks
  pub each : (l : ℕ) → l < length disks → (disk : D) (file : LogFileView D)
      → IsReopened IsModelled seen_of story_of failed_of (header_view l loggers s seed) (slice_index_or disks l disk)
      (slice_index_or strings l []) (slice_index_or files l file) (slice_index_or bodies l [])

-- disks that a refusal gives back, in their order: on none anything was written, and one failure more is counted on one
-- of them where it is `Device`, and else none
pub record AreGivenBack {D : Type 0} (IsModelled : Type 0) (seen_of : D → List ℕ) (story_of : D → List Call)
    (failed_of : D → ℕ) (refusal : Refusal) (old new : List D) : Type 0 where
  pub count : length new ≡ length old
  pub each : (l : ℕ) → l < length old → (disk : D)
      → IsOnlySynced IsModelled seen_of story_of (slice_index_or old l disk) (slice_index_or new l disk)
  pub failed : refusal ≡ Device → DeviceHasFailed (map failed_of old) (map failed_of new)
  pub not_failed : (refusal ≡ Device → ⊥) → map failed_of new ≡ map failed_of old

-- all log files of a database of this scale and seed are open behind these bodies
pub record AreOpenBehind {D : Type 0} (s : Sizes) (seed loggers : ℕ) (files : List (LogFileView D))
    (bodies : List (List BodyView)) : Type 0 where
  pub files_count : length files ≡ loggers
  pub bodies_count : length bodies ≡ loggers
  pub each : (l : ℕ) → l < loggers → (file : LogFileView D)
      → IsOpenBehind (header_view l loggers s seed) (slice_index_or bodies l []) (slice_index_or files l file)

-- a modelled disk, and the file that was opened on it: it was synced twice
pub record IsOpenedOn (h : HeaderView) (bodies : List BodyView) (disk : DiskView) (file : LogFileView DiskView)
    : Type 0 where
  pub opened : IsOpened h bodies file
  pub usable : file.failed ≡ false
  pub seen : file.disk.seen ≡ disk.seen
  pub story : file.disk.story ≡ Synced disk.seen ∷ Synced disk.seen ∷ disk.story
  pub gives : MayLeave disk.story disk.seen
  pub short : length disk.seen < 2 ^ 64

-- all log files of a database of this scale and seed are opened on these disks, which are its loggers', in their order
pub record AreOpened (s : Sizes) (seed : ℕ) (disks : List DiskView) (files : List (LogFileView DiskView))
    (bodies : List (List BodyView)) : Type 0 where
  pub files_count : length files ≡ length disks
  pub bodies_count : length bodies ≡ length disks
  pub each : (l : ℕ) → l < length disks → (disk : DiskView) (file : LogFileView DiskView)
      → IsOpenedOn (header_view l (length disks) s seed) (slice_index_or bodies l []) (slice_index_or disks l disk)
      (slice_index_or files l file)

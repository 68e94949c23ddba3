-- The log files that recovery reads.
use Rattle.std.specs.Prelude.{◌≡◌, ◌≢◌, ℕ, ◌+◌, ◌-◌, ◌<◌, ◌^◌, min, List, [], length, map, slice_index_or}
use Rattle.std.specs.Prelude.{Result, IfOk, IfErr, IsErrOf}
use Rattle.money.specs.declared.refusal.Refusal.{Refusal}
use Rattle.money.specs.declared.refusal.Refusal.TheVariants.{OutOfMemory, Damaged, Device}
use Rattle.tables.specs.Sizes.{Sizes}
use Rattle.log_disk.specs.Calls.{Call, OnlyReads}
use Rattle.log_header.specs.Header.{HeaderView, header_of_version}
use Rattle.log_header.specs.declared.header.TheConstants.{VERSION}
use Rattle.log_text.specs.Bodies.{BodyView}
use Rattle.log_text.specs.File.{IsFile}
use Rattle.recover_found.specs.Found.{bodies_in}
use Rattle.recover_files.specs.declared.file_set.FileSet.{FileSet}

-- strings of bytes are log files with these bodies, and each has the header of its place
pub record AreFilesWith (headers : ℕ → HeaderView) (strings : List (List ℕ)) (files : List (List BodyView))
    : Type 0 where
  pub count : length files ≡ length strings
  pub each : (l : ℕ) → l < length strings
      → IsFile (slice_index_or strings l []) (headers l) (slice_index_or files l [])

-- they are the log files of a database of this scale and seed, one a logger, in this version of the format
abbrev pub AreFilesOf : ℕ → Sizes → ℕ → List (List ℕ) → List (List BodyView) → Type 0
AreFilesOf version s seed strings files =
    AreFilesWith (λ l. header_of_version version l (length strings) s seed) strings files

-- they are no log files of such a database, in whatever version
abbrev pub AreDamaged : Sizes → ℕ → List (List ℕ) → Type 0
AreDamaged s seed strings =
    (version : ℕ) (files : List (List BodyView)) → AreFilesOf version s seed strings files → ⊥

-- they are its log files in the version that is written today, so that it may go on behind them
abbrev pub AreFiles : Sizes → ℕ → List (List ℕ) → List (List BodyView) → Type 0
AreFiles s seed strings files = AreFilesOf VERSION s seed strings files

-- and they are none in that version
abbrev pub AreNoFiles : Sizes → ℕ → List (List ℕ) → Type 0
AreNoFiles s seed strings = (files : List (List BodyView)) → AreFiles s seed strings files → ⊥

-- strings that a computer of 64 bits can hold
abbrev pub AreShort : List (List ℕ) → Type 0
AreShort strings = (l : ℕ) → l < length strings → length (slice_index_or strings l []) < 2 ^ 64

-- a call of one of the devices has failed
pub record DeviceHasFailed (old new : List ℕ) : Type 0 where
  pub device : ℕ
  pub among : device < length old
  pub failed : slice_index_or new device 0 ≡ min (slice_index_or old device 0 + 1) (2 ^ 64 - 1)

-- the headers of the files of the loggers from one on, of so many loggers of such a database, by version and place
abbrev pub headers_from : ℕ → ℕ → Sizes → ℕ → ℕ → ℕ → HeaderView
headers_from first loggers s seed version l = header_of_version version (first + l) loggers s seed

-- strings of bytes, one a disk: of modelled disks they are what a read gives
pub record AreOnDisks (IsModelled : Type 0) (seen strings : List (List ℕ)) : Type 0 where
  pub count : length strings ≡ length seen
  pub modelled : IsModelled → strings ≡ seen

-- what comes of reading files of one version, each with the header that it has in that version at its place, from
-- disks, which were old and then are new
pub record ReadsFiles {X : Type 0} (IsModelled : Type 0) (seen_of : X → List ℕ) (story_of : X → List Call)
    (failed_of : X → ℕ) (headers : ℕ → ℕ → HeaderView) (old new : List X) (result : Result FileSet Refusal)
    : Type 0 where
  pub found : IfOk result (λ files. (strings : List (List ℕ)) × AreOnDisks IsModelled (map seen_of old) strings
      × AreShort strings
      × AreFilesWith (headers files.version) strings (map (λ bodies. bodies_in bodies.items) files.bodies.items))
  pub damaged : IsErrOf result Damaged → (strings : List (List ℕ)) × AreOnDisks IsModelled (map seen_of old) strings
      × ((version : ℕ) (files : List (List BodyView)) → AreFilesWith (headers version) strings files → ⊥)
  pub failed : IsErrOf result Device → DeviceHasFailed (map failed_of old) (map failed_of new)
  pub not_failed : (IsErrOf result Device → ⊥) → map failed_of new ≡ map failed_of old
  pub others : IfErr result (λ refusal. (refusal ≢ OutOfMemory) → (refusal ≢ Device) → refusal ≡ Damaged)
  pub reads : OnlyReads IsModelled (map seen_of) (map story_of) old new
  pub count : length new ≡ length old

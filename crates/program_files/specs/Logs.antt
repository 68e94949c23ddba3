-- What comes of the log files of a command line.
use Rattle.std.specs.Prelude.{◌≡◌, ◌≢◌, ◌<◌, ◌++◌, ℕ, Bool, true, false, List, [], Option, Some, None, codes}
use Rattle.std.specs.Prelude.{string_bytes, IfSome, if◌then◌else◌}
use Rattle.std.specs.Fmt.{decimal}
use Rattle.std.specs.Io.KnownBytes.{Appends}
use Rattle.std.specs.declared.io.Error.{Error}
use Rattle.money.specs.declared.refusal.Refusal.{Refusal}
use Rattle.money.specs.declared.refusal.Refusal.TheVariants.{OutOfMemory, Device, Damaged, Gap}
use Rattle.tables.specs.Database.{Database, database}
use Rattle.tables.specs.Sizes.{Sizes}
use Rattle.conditions.specs.Report.{IsReportOf}
use Rattle.conditions.specs.declared.report.Report.{Report}
use Rattle.log_header.specs.Header.{HeaderView, IsHeader, header_text}
use Rattle.log_flaws.specs.declared.field.HeaderField.TheVariants.{Loggers, Version}
use Rattle.log_flaws.specs.declared.flaw.FileFlaw.TheVariants.{OtherHeader}
use Rattle.recover_files.specs.Recovered.{IsRecovery}
use Rattle.recover_files.specs.declared.recovering.Recovered.{Recovered}
use Rattle.program_recovery.specs.Far.{IsBeyond}
use Rattle.program_recovery.specs.Told.{IsShown, IsChecked, IsRefused}
use Rattle.program_recovery.specs.Flaws.{IsDamage, IsFirstGap}
use Rattle.program_recovery.specs.declared.damage.AskedVersion.{AskedVersion}
use Rattle.program_recovery.specs.declared.damage.AskedVersion.TheVariants as asked
use Rattle.program_recovery.specs.declared.damage.Damage.{Damage}
use Rattle.program_recovery.specs.declared.far.Beyond.{Beyond}
use Rattle.program_recovery.specs.declared.gap.Misnumbered.{Misnumbered}
use Rattle.program_options.specs.declared.asked.LogFiles.{LogFiles}
use Rattle.program_files.specs.Causes.{CauseView, Unusable, Flawed, Older, Amiss, Unsound}
use Rattle.program_files.specs.declared.fault.Purpose.{Purpose}
use Rattle.program_files.specs.declared.fault.Purpose.TheVariants.{Read, Create, Append}
use Rattle.program_files.specs.declared.fault.Trouble.{Trouble}
use Rattle.program_files.specs.declared.fault.Trouble.TheVariants.{NotCreated, Exists, Alone, NotLeft, NotNamed, NotOpened, NotLocked, InUse}
use Rattle.program_files.specs.declared.fault.Trouble.TheVariants.{NotRead, NotWritten, NotSynced}

-- the path of a logger's file, `DIR/log-0`
abbrev pub path_of : LogFiles → ℕ → List ℕ
path_of files logger = string_bytes files.folder ++ (codes "/log-" ++ decimal logger)

-- the path at which it is made
abbrev pub first_path_of : LogFiles → ℕ → List ℕ
first_path_of files logger = path_of files logger ++ codes ".new"

-- the path of the folder, as it stands in front of its files' names
abbrev pub folder_of : LogFiles → List ℕ
folder_of files = string_bytes files.folder ++ codes "/"

-- what may stop a file from being made ready for this: it can't be made, or opened where it is there, and locked
abbrev pub may_stop : Purpose → Trouble → Bool
may_stop Create (NotCreated error) = true
may_stop Create (Exists error) = true
may_stop Create Alone = true
may_stop Create NotLeft = true
may_stop Create (NotNamed error) = true
may_stop Read (NotOpened error) = true
may_stop Append (NotOpened error) = true
may_stop purpose (NotLocked error) = true
may_stop purpose InUse = true
may_stop purpose trouble = false

-- some bytes of the first file begin with a header, which tells of another number of loggers
pub record HasOtherLoggers (files : LogFiles) (cause : CauseView) : Type 0 where
  pub header : HeaderView
  pub first : List ℕ
  pub rest : List ℕ
  pub lawful : IsHeader header
  pub begins : first ≡ header_text header ++ rest
  pub others : header.loggers ≢ files.loggers
  pub is : cause ≡ Flawed (path_of files 0) (OtherHeader Loggers header.loggers files.loggers)

-- the files weren't ready for this: memory ran out; this one couldn't be used so, or what stands where it is made; there
-- are files, but of another number of loggers; or the names that their folder has of them couldn't be made durable
pub data AreUnready (purpose : Purpose) (files : LogFiles) (refusal : Refusal) (known : Option CauseView)
    : Type 0 where
  memory : refusal ≡ OutOfMemory → known ≡ None → AreUnready purpose files refusal known
  one : (logger : ℕ) (trouble : Trouble) → logger < files.loggers → may_stop purpose trouble ≡ true → refusal ≡ Device
      → known ≡ Some (Unusable (path_of files logger) trouble) → AreUnready purpose files refusal known
  left : (logger : ℕ) (trouble : Trouble) → logger < files.loggers → may_stop Create trouble ≡ true → purpose ≡ Create
      → refusal ≡ Device → known ≡ Some (Unusable (first_path_of files logger) trouble) → AreUnready purpose files refusal known
  others : (cause : CauseView) → purpose ≢ Create → refusal ≡ Device → HasOtherLoggers files cause → known ≡ Some cause
      → AreUnready purpose files refusal known
  names : (error : Error) → purpose ≢ Read → refusal ≡ Device → known ≡ Some (Unusable (folder_of files) (NotSynced error))
      → AreUnready purpose files refusal known

-- what it is called that a file can't be used for this any longer, once it was ready, where the call that failed writes
-- or not
abbrev pub broken_off : Purpose → Bool → Error → Trouble
broken_off Read writes error = NotRead error
broken_off Create writes error = NotWritten error
broken_off Append writes error = if writes then NotWritten error else NotRead error

-- of which version its files may be asked to be: to be read, of that of the first; to be written behind what they hold,
-- of that which is written today, or, where one isn't, of that of the first
abbrev pub may_ask : AskedVersion → Purpose → Bool
may_ask asked.First purpose = true
may_ask asked.Today Append = true
may_ask asked.Today purpose = false

-- a device failed, and this log file is on it
pub record HasBroken (purpose : Purpose) (files : LogFiles) (refusal : Refusal) (cause : CauseView) : Type 0 where
  pub logger : ℕ
  pub error : Error
  pub writes : Bool
  pub device : refusal ≡ Device
  pub among : logger < files.loggers
  pub is : cause ≡ Unusable (path_of files logger) (broken_off purpose writes error)

-- some bytes of a file that is to be gone on with are of this version, and of no other damage before
abbrev pub IsOlder : Sizes → ℕ → LogFiles → Damage → ℕ → Type 0
IsOlder s seed files damage found = (first : List ℕ) × (file : List ℕ) × (wanted : ℕ)
    × IsDamage asked.Today s seed files.loggers first file damage × (damage.flaw ≡ OtherHeader Version found wanted)

-- first tables of this scale, and some bytes, recover to tables in which this column is out of reach
abbrev pub IsBeyondOf : Sizes → ℕ → Beyond → Type 0
IsBeyondOf s seed beyond = (t0 : Database) × (t0.scale ≡ s) × (strings : List (List ℕ)) × (r : Recovered)
    × IsRecovery t0 seed strings r × IsBeyond r.commits (database r.tables) beyond

-- why log files of this scale and seed weren't recovered, or gone on with: one couldn't be used; some bytes of one have
-- this flaw; one that is to be gone on with is of another version, and nothing else keeps it from being read; the numbers
-- of the commits that some bytes of theirs have are amiss; or files to be gone on with have no flaw, and yet were refused
-- for damage, and of what some bytes of theirs recover to this column is out of reach, if one is known
pub data IsWhy (purpose : Purpose) (files : LogFiles) (s : Sizes) (seed : ℕ) (refusal : Refusal) (cause : CauseView)
    : Type 0 where
  broken : HasBroken purpose files refusal cause → IsWhy purpose files s seed refusal cause
  damaged : (asked : AskedVersion) (first file : List ℕ) (damage : Damage) → refusal ≡ Damaged
      → may_ask asked purpose ≡ true → IsDamage asked s seed files.loggers first file damage
      → cause ≡ Flawed (path_of files damage.logger) damage.flaw → IsWhy purpose files s seed refusal cause
  older : (damage : Damage) (found : ℕ) → refusal ≡ Damaged → purpose ≡ Append → IsOlder s seed files damage found
      → cause ≡ Older (path_of files damage.logger) found → IsWhy purpose files s seed refusal cause
  gap : (strings : List (List ℕ)) (gap : Misnumbered) → refusal ≡ Gap → IsFirstGap s seed strings (Some gap)
      → cause ≡ Amiss gap → IsWhy purpose files s seed refusal cause
  unsound : (beyond : Option Beyond) → refusal ≡ Damaged → purpose ≡ Append → IfSome beyond (IsBeyondOf s seed)
      → cause ≡ Unsound beyond → IsWhy purpose files s seed refusal cause

-- what some bytes of the files recover to was shown, and this is the report of the recovered tables
pub record IsShownWith (t0 : Database) (seed : ℕ) (old new : Option (List ℕ)) (report : Report) : Type 0 where
  pub strings : List (List ℕ)
  pub recovered : Recovered
  pub shown : IsShown t0 seed strings old new recovered
  pub exact : IsReportOf (database recovered.tables) report

-- or the report of what some bytes of theirs recover to was written, and this is it
abbrev pub IsCheckedWith : Database → ℕ → Option (List ℕ) → Option (List ℕ) → Report → Type 0
IsCheckedWith t0 seed old new report = (strings : List (List ℕ)) × IsChecked t0 seed strings old new report

-- it was refused: the files weren't ready; or the recovery of some bytes of theirs was refused, on devices that had some
-- numbers of failures before and after, which is told why, where memory is there for that
pub data IsRefusedWith (files : LogFiles) (Tells : Recovered → List ℕ → Type 0) (t0 : Database) (seed : ℕ)
    (old new : Option (List ℕ)) (refusal : Refusal) (known : Option CauseView) : Type 0 where
  unread : AreUnready Read files refusal known → Appends old new []
      → IsRefusedWith files Tells t0 seed old new refusal known
  untold : (strings : List (List ℕ)) (before now : List ℕ) → IsRefused t0 seed strings Tells before now old new refusal
      → IfSome known (IsWhy Read files t0.scale seed refusal) → IsRefusedWith files Tells t0 seed old new refusal known

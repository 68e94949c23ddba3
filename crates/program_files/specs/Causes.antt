-- Why a run was refused, and what that is called.
use Rattle.std.specs.Prelude.{ℕ, List, Option, Some, None, codes, option_map, string_bytes}
use Rattle.std.specs.declared.io.Error.{Error}
use Rattle.log_flaws.specs.declared.flaw.FileFlaw.{FileFlaw}
use Rattle.program_recovery.specs.declared.far.Beyond.{Beyond}
use Rattle.program_recovery.specs.declared.gap.Misnumbered.{Misnumbered}
use Rattle.program_files.specs.declared.fault.Cause.{Cause}
use Rattle.program_files.specs.declared.fault.Cause.TheVariants as cause
use Rattle.program_files.specs.declared.fault.Fault.{Fault}
use Rattle.program_files.specs.declared.fault.Trouble.{Trouble}
use Rattle.program_files.specs.declared.fault.Trouble.TheVariants.{NotCreated, Exists, Alone, NotLeft, NotNamed, NotOpened, NotLocked, InUse}
use Rattle.program_files.specs.declared.fault.Trouble.TheVariants.{NotRead, NotWritten, NotSynced}

-- what it is called that a file can't be used so
abbrev pub trouble_of : Trouble → List ℕ
trouble_of (NotCreated error) = codes "can't be created"
trouble_of (Exists error) =
    codes "can't be created, and the file that is there is left as it is (--resume goes on with it)"
trouble_of Alone = codes "is there without log-0"
trouble_of NotLeft = codes "is there, and isn't what a start that was killed leaves"
trouble_of (NotNamed error) = codes "can't be given this name"
trouble_of (NotOpened error) = codes "can't be opened"
trouble_of (NotLocked error) = codes "can't be locked"
trouble_of InUse = codes "in use by another process"
trouble_of (NotRead error) = codes "can't be read"
trouble_of (NotWritten error) = codes "can't be written"
trouble_of (NotSynced error) = codes "can't be synced"

-- the system's reason, if it is one of its own
abbrev pub reason_of : Trouble → Option Error
reason_of (NotCreated error) = Some error
reason_of (Exists error) = Some error
reason_of Alone = None
reason_of NotLeft = None
reason_of (NotNamed error) = Some error
reason_of (NotOpened error) = Some error
reason_of (NotLocked error) = Some error
reason_of InUse = None
reason_of (NotRead error) = Some error
reason_of (NotWritten error) = Some error
reason_of (NotSynced error) = Some error

-- why a run was refused: the file of this path, or the folder of the files, couldn't be used; the file isn't the log file
-- that it is to be, or it is of this version, which isn't gone on with; the numbers of commits are amiss; what the files
-- recover to no commits can have made, in this column if one is known; or so many commits aren't durable, since the logger
-- of the file of this path had no memory for its last batch, or since the file can have no mark behind the last epoch
pub data CauseView : Type 0 where
  Unusable : List ℕ → Trouble → CauseView
  Flawed : List ℕ → FileFlaw → CauseView
  Older : List ℕ → ℕ → CauseView
  Amiss : Misnumbered → CauseView
  Unsound : Option Beyond → CauseView
  Unlogged : List ℕ → ℕ → CauseView
  InLastEpoch : List ℕ → ℕ → CauseView

abbrev pub cause_view : Cause → CauseView
cause_view (cause.Unusable path trouble) = Unusable (string_bytes path) trouble
cause_view (cause.Flawed path flaw) = Flawed (string_bytes path) flaw
cause_view (cause.Older path version) = Older (string_bytes path) version
cause_view (cause.Amiss gap) = Amiss gap
cause_view (cause.Unsound beyond) = Unsound beyond
cause_view (cause.Unlogged path commits) = Unlogged (string_bytes path) commits
cause_view (cause.InLastEpoch path commits) = InLastEpoch (string_bytes path) commits

-- what is known of why
abbrev pub cause_of : Fault → Option CauseView
cause_of fault = option_map cause_view fault.cause

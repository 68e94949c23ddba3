-- Why a file has no header.
use Rattle.std.specs.Prelude.{◌≡◌, ℕ, Bool, List, false, true}
use Rattle.log_header.specs.Header.{HeaderView}
use Rattle.log_flaws.specs.Flaws.{HasFlaw}
use Rattle.program_files.specs.declared.fault.Trouble.{Trouble}
use Rattle.program_files.specs.declared.fault.Trouble.TheVariants.{NotOpened, NotRead}
use Rattle.program_files.specs.declared.header.Headless.{Headless}
use Rattle.program_files.specs.declared.header.Headless.TheVariants.{Unread, Flawed}

-- what may keep a file from being read
abbrev pub stops_reading : Trouble → Bool
stops_reading (NotOpened error) = true
stops_reading (NotRead error) = true
stops_reading trouble = false

-- it couldn't be opened or read, or some bytes have this flaw, whichever header is asked for
abbrev pub IsWhyHeadless : Headless → Type 0
IsWhyHeadless (Unread trouble) = stops_reading trouble ≡ true
IsWhyHeadless (Flawed flaw) = (file : List ℕ) × ((asked : HeaderView) → HasFlaw file asked flaw)

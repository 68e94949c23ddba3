-- What is told of log files by the header of one, and of the program's version.
use Rattle.std.specs.Prelude.{◌≡◌, ◌++◌, ℕ, true, List, [], Option, None, Some, codes, string_bytes}
use Rattle.std.specs.Fmt.{decimal}
use Rattle.std.specs.Io.KnownBytes.{Appends}
use Rattle.std.specs.declared.io.Error.{Error}
use Rattle.money.specs.declared.refusal.Refusal.{Refusal}
use Rattle.money.specs.declared.refusal.Refusal.TheVariants.{OutOfMemory, Device, Damaged}
use Rattle.tables.specs.Sizes.{Sizes}
use Rattle.log_header.specs.Header.{HeaderView, IsHeader}
use Rattle.log_flaws.specs.Flaws.{HasFlaw}
use Rattle.log_flaws.specs.declared.flaw.FileFlaw.{FileFlaw}
use Rattle.program_options.specs.declared.asked.InfoOptions.{InfoOptions}
use Rattle.program_files.specs.Causes.{CauseView, Unusable, Flawed}
use Rattle.program_files.specs.Headless.{stops_reading}
use Rattle.program.specs.Detail.{IsCauseLine, IsDeviceLine}
use Rattle.program.specs.Status.{WritesBeginning}
use Rattle.program_files.specs.declared.fault.Trouble.{Trouble}

-- what is told of the program's version
abbrev pub version_line : List ℕ
version_line = codes "tpcc 0.1.0 (for rattle-kit-13f; proved where rt ci or rt run built it)\n"

-- the options of the tables
abbrev pub places_text : ℕ → ℕ → ℕ → List ℕ
places_text warehouses districts customers =
    codes "--warehouses " ++ (decimal warehouses ++ (codes " --districts " ++ (decimal districts
    ++ (codes " --customers " ++ decimal customers))))

abbrev pub caps_text : ℕ → ℕ → ℕ → ℕ → List ℕ
caps_text items orders commits seed =
    codes "--items " ++ (decimal items ++ (codes " --orders " ++ (decimal orders
    ++ (codes " --commits " ++ (decimal commits ++ (codes " --population " ++ decimal seed))))))

abbrev pub tables_text : Sizes → ℕ → List ℕ
tables_text s seed =
    places_text s.warehouses s.districts s.customers ++ (codes " " ++ caps_text s.items s.orders s.commits seed)

-- the version, the number of loggers, and then, on one line, the options to repeat
abbrev pub lines_text : ℕ → ℕ → List ℕ → List ℕ
lines_text version loggers tables =
    codes "version " ++ (decimal version ++ (codes "\nloggers " ++ (decimal loggers ++ (codes "\n--loggers "
    ++ (decimal loggers ++ (codes " " ++ (tables ++ codes "\n")))))))

abbrev pub info_text : HeaderView → List ℕ
info_text h = lines_text h.version h.loggers (tables_text h.scale h.seed)

-- the path of the first logger's file
abbrev pub first_path : InfoOptions → List ℕ
first_path i = string_bytes i.folder ++ codes "/log-0"

-- some bytes begin with this header, of which this was told
abbrev pub IsInfoTold : Option (List ℕ) → Option (List ℕ) → Type 0
IsInfoTold old new = (h : HeaderView) × IsHeader h × Appends old new (info_text h)

-- it was refused: for want of memory; the file couldn't be opened or read; some bytes begin with no header, which has this
-- flaw; or the output failed
pub data IsUntold (path : List ℕ) (old new : Option (List ℕ)) (refusal : Refusal) (known : Option CauseView) : Type 0 where
  memory : refusal ≡ OutOfMemory → known ≡ None → Appends old new [] → IsUntold path old new refusal known
  unread : (trouble : Trouble) → stops_reading trouble ≡ true → refusal ≡ Device → known ≡ Some (Unusable path trouble)
      → Appends old new [] → IsUntold path old new refusal known
  headless : (file : List ℕ) (flaw : FileFlaw) → ((asked : HeaderView) → HasFlaw file asked flaw) → refusal ≡ Damaged
      → known ≡ Some (Flawed path flaw) → Appends old new [] → IsUntold path old new refusal known
  begun : (h : HeaderView) → IsHeader h → refusal ≡ Device → known ≡ None → WritesBeginning (info_text h) old new
      → IsUntold path old new refusal known

-- what is told behind a refusal's line, where no scale was asked for
abbrev pub IsPlainDetail : Option CauseView → Option Error → Option Error → Refusal → List ℕ → Type 0
IsPlainDetail known input output Device line = IsDeviceLine known input output line
IsPlainDetail known input output Damaged line = IsCauseLine known line
IsPlainDetail known input output _ line = line ≡ []

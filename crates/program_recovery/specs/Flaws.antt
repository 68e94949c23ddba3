-- What keeps log files from being recovered.
use Rattle.std.specs.Prelude.{◌≡◌, ◌⊎◌, ℕ, ◌<◌, ◌≤◌, ◌++◌, ◌==◌, Option, List, codes, count_by, MatchOption}
use Rattle.std.specs.Fmt.{decimal}
use Rattle.std.specs.List.{Contains}
use Rattle.tables.specs.Sizes.{Sizes}
use Rattle.log_header.specs.Header.{HeaderView, IsHeader, header_of_version, header_text}
use Rattle.log_header.specs.declared.header.TheConstants.{VERSION}
use Rattle.log_text.specs.Bodies.{BodyView}
use Rattle.log_text.specs.Entries.{EntryView}
use Rattle.log_text.specs.File.{IsFile}
use Rattle.log_flaws.specs.Flaws.{HasFlaw, IsHeadless}
use Rattle.recover_found.specs.Found.{found}
use Rattle.recover_found.specs.Rebuilt.{HaveNoGap}
use Rattle.recover_files.specs.Files.{AreFilesOf}
use Rattle.program_recovery.specs.declared.damage.AskedVersion.{AskedVersion}
use Rattle.program_recovery.specs.declared.damage.AskedVersion.TheVariants.{First, Today}
use Rattle.program_recovery.specs.declared.damage.Damage.{Damage}
use Rattle.program_recovery.specs.declared.gap.Misnumbered.{Misnumbered}
use Rattle.program_recovery.specs.declared.gap.Misnumbered.TheVariants.{Missing, Twice}

-- bytes are the log file of this version of this logger, one of so many, of a database of this scale and seed
abbrev pub IsLogFileOf : ℕ → Sizes → ℕ → ℕ → ℕ → List ℕ → Type 0
IsLogFileOf version s seed logger loggers file =
    (bodies : List BodyView) × IsFile file (header_of_version version logger loggers s seed) bodies

-- the version in the header with which bytes begin, and the one that is written today where they begin with none
abbrev pub IsVersionOf : List ℕ → ℕ → Type 0
IsVersionOf file version =
    ((h : HeaderView) × (rest : List ℕ) × IsHeader h × (file ≡ header_text h ++ rest) × (version ≡ h.version))
    ⊎ (IsHeadless file × (version ≡ VERSION))

-- the version of which log files are asked to be, the first of which has these bytes
abbrev pub IsAskedVersion : AskedVersion → List ℕ → ℕ → Type 0
IsAskedVersion First first version = IsVersionOf first version
IsAskedVersion Today first version = version ≡ VERSION

-- these bytes, of one of so many loggers' files, of which the first has those, aren't that of the version that is asked
-- for, for this flaw
pub record IsDamage (asked : AskedVersion) (s : Sizes) (seed loggers : ℕ) (first file : List ℕ) (damage : Damage)
    : Type 0 where
  pub version : ℕ
  pub is_asked : IsAskedVersion asked first version
  pub among : damage.logger < loggers
  pub flaw : HasFlaw file (header_of_version version damage.logger loggers s seed) damage.flaw

-- how many entries have this commit number
abbrev pub times : ℕ → List EntryView → ℕ
times n es = count_by (λ e. e.number == n) es

-- n is the first of 1, 2, 3 and so on that isn't the number of just one entry
pub record IsFirstAmiss (es : List EntryView) (n : ℕ) : Type 0 where
  pub positive : 1 ≤ n
  pub before : (k : ℕ) → 1 ≤ k → k < n → times k es ≡ 1

-- it is the number of none, though another has a later one; or of two
abbrev pub IsMisnumbered : List EntryView → Misnumbered → Type 0
IsMisnumbered es (Missing n) =
    IsFirstAmiss es n × (times n es ≡ 0) × ((e : EntryView) × Contains es e × (n < e.number))
IsMisnumbered es (Twice n) = IsFirstAmiss es n × (2 ≤ times n es)

-- these strings of bytes are the database's log files, of one version, and of the commits that count in them, this is
-- the first whose number is amiss, or there is none
pub record IsFirstGap (s : Sizes) (seed : ℕ) (strings : List (List ℕ)) (gap : Option Misnumbered) : Type 0 where
  pub version : ℕ
  pub files : List (List BodyView)
  pub read : AreFilesOf version s seed strings files
  pub amiss : MatchOption gap (HaveNoGap (found files)) (IsMisnumbered (found files))

-- how it is told
abbrev pub misnumbered_text : Misnumbered → List ℕ
misnumbered_text (Missing n) = codes "commit " ++ (decimal n ++ codes " is missing")
misnumbered_text (Twice n) = codes "commit " ++ (decimal n ++ codes " stands twice")

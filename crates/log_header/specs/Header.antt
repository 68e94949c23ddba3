-- The header of a log file, and the bytes in which it stands.
use Rattle.std.specs.Prelude.{ℕ, ◌<◌, ◌^◌, List, ◌++◌, codes}
use Rattle.log_codec.specs.Numbers.{number}
use Rattle.tables.specs.Sizes.{Sizes, IsScale, IsBetween}
use Rattle.tables.specs.declared.limits.TheConstants.{MAX_LOGGERS}
use Rattle.log_header.specs.declared.header.TheConstants.{OLDEST_VERSION, VERSION}

-- the version of the format, the number of the file's logger, how many loggers there are, the scale, and the number
-- that seeded the population, 0 for the plain one
pub record HeaderView : Type 0 where
  pub version : ℕ
  pub logger : ℕ
  pub loggers : ℕ
  pub scale : Sizes
  pub seed : ℕ

-- the header of these fields
abbrev pub header_of_version : ℕ → ℕ → ℕ → Sizes → ℕ → HeaderView
header_of_version version logger loggers scale seed =
    record { version = version; logger = logger; loggers = loggers; scale = scale; seed = seed }

-- and of a file that is written today
abbrev pub header_view : ℕ → ℕ → Sizes → ℕ → HeaderView
header_view logger loggers scale seed = header_of_version VERSION logger loggers scale seed

-- the rules of a header: its version is one that is read, loggers are numbered from 0, and a seed has eight bytes
pub record IsHeader (h : HeaderView) : Type 0 where
  pub version : IsBetween OLDEST_VERSION VERSION h.version
  pub scale : IsScale h.scale
  pub loggers : IsBetween 1 MAX_LOGGERS h.loggers
  pub logger : h.logger < h.loggers
  pub seed : h.seed < 256 ^ 8

-- the numbers of a scale, in four bytes each
unfoldable pub scale_text : Sizes → List ℕ
scale_text s =
    number 4 s.warehouses ++ (number 4 s.districts ++ (number 4 s.customers ++ (number 4 s.items
    ++ (number 4 s.orders ++ number 4 s.commits))))

-- the 48 bytes of a header: the format's name, its version, and the other fields
unfoldable pub header_text : HeaderView → List ℕ
header_text h =
    codes "SILOTPCC" ++ (number 4 h.version ++ (number 2 h.logger ++ (number 2 h.loggers
    ++ (scale_text h.scale ++ number 8 h.seed))))

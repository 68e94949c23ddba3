-- A log file of a version that is none of those that are read.
use Rattle.std.specs.Prelude.{ℕ, nat_lt, ◌==◌, ◌&&◌, Option, Some, None, if◌then◌else◌, List}
use Rattle.std.specs.Option.{option_and_then}
use Rattle.log_codec.specs.Numbers.{number_at}
use Rattle.log_header.specs.declared.header.TheConstants.{VERSION}
use Rattle.log_flaws.specs.declared.versions.TheConstants.{FORMAT}

-- the version that stands behind the format's name, where bytes begin with that, and it is above the one that is written
-- today
unfoldable pub newer_version : List ℕ → Option ℕ
newer_version bytes = option_and_then (λ name. option_and_then (λ version.
    if name.0 == FORMAT && nat_lt VERSION version.0 then Some version.0 else None) (number_at 4 name.1)) (number_at 8 bytes)

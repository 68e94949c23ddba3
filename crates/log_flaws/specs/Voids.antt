-- What keeps bytes that begin as a void body from being one that may stand there.
use Rattle.std.specs.Prelude.{ℕ, nat_lt, ◌==◌, ◌||◌, Option, Some, None, if◌then◌else◌, List}
use Rattle.std.specs.Option.{option_and_then}
use Rattle.tables.specs.declared.limits.TheConstants.{MAX_MARK}
use Rattle.log_codec.specs.Numbers.{number_at}
use Rattle.log_text.specs.declared.body.TheConstants.{VOID_MARK}
use Rattle.log_text.specs.declared.last.Last.{Last}
use Rattle.log_flaws.specs.declared.voids.TheConstants.{VOID_BYTES}
use Rattle.log_flaws.specs.declared.voids.VoidFlaw.{VoidFlaw}
use Rattle.log_flaws.specs.declared.voids.VoidFlaw.TheVariants as flaw

-- of its two ends, where a file stands there
abbrev pub range_flaw : Last → ℕ → ℕ → Option VoidFlaw
range_flaw last low high = if low == 0 then Some flaw.BeginsAtZero
    else if nat_lt high low then Some flaw.EndsTooEarly
    else if nat_lt MAX_MARK high then Some flaw.EndsTooLate
    else if nat_lt high last.mark || nat_lt high last.epoch then Some flaw.EndsBeforeOthers
    else None

-- bytes begin as a void body where 2^64 - 1 stands behind a length
unfoldable pub void_flaw : Last → List ℕ → Option VoidFlaw
void_flaw last bytes = option_and_then (λ size. option_and_then (λ mark. if mark.0 == VOID_MARK
    then if size.0 == VOID_BYTES
    then option_and_then (λ low. option_and_then (λ high. range_flaw last low.0 high.0) (number_at 8 low.1))
    (number_at 8 mark.1)
    else Some flaw.OtherLength
    else None) (number_at 8 size.1)) (number_at 8 bytes)

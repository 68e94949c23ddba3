-- What conditions ask of the words of records.
use Rattle.std.specs.Prelude.{ℕ, ◌==◌, Bool, true, Option, List, slice_index}
use Rattle.std.specs.Option.{option_map_or}

-- a column that may be null is 0 where it is
abbrev pub is_zero : ℕ → Bool
is_zero n = n == 0

-- whether an order has no carrier, as it counts where it is missing
abbrev pub has_none : Option (List ℕ) → Bool
has_none order = option_map_or (λ words. is_zero (slice_index words 2)) order true

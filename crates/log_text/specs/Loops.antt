-- What a loop has read, in front of what it is still to read.
use Rattle.std.specs.Prelude.{ℕ, Option, List, ◌++◌}
use Rattle.std.specs.Option.{option_map}

unfoldable pub many_after : {A : Type 0} → List A → Option (List A × List ℕ) → Option (List A × List ℕ)
many_after front read = option_map (λ x. (front ++ x.0, x.1)) read

unfoldable pub filled_after : {A : Type 0} → List A → Option (List A) → Option (List A)
filled_after front read = option_map (λ others. front ++ others) read

-- What is told of refused lines, beside their answers.
use Rattle.std.specs.Prelude.{List, Option, ℕ}
use Rattle.std.specs.Io.KnownBytes.{Appends}

-- some text more was told, or none
abbrev pub TellsMore : Option (List ℕ) → Option (List ℕ) → Type 0
TellsMore old new = (text : List ℕ) × Appends old new text

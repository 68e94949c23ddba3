-- Records of rows that hold what they may, beside those of C_DATA.
use Rattle.std.specs.Prelude.{ℕ, ◌<◌, List, Option}
use Rattle.tables.specs.Sizes.{Sizes}
use Rattle.tables.specs.Records.{key_of}
use Rattle.encoding.specs.Held.{row_count}
use Rattle.encoding.specs.Puts.{MayHold}

abbrev pub AreLawfulRows : Sizes → (ℕ → Option (List ℕ)) → Type 0
AreLawfulRows s values = (n : ℕ) → n < row_count s → MayHold s (key_of s n) (values n)

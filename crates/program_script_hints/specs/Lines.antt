-- What is told of a refused line of a script.
use Rattle.std.specs.Prelude.{ℕ, List, ◌++◌, codes}
use Rattle.std.specs.Fmt.{decimal}

-- the line of this number, and what is wrong with it
abbrev pub line_on : ℕ → List ℕ → List ℕ
line_on number what = codes "line " ++ (decimal number ++ (codes ": " ++ (what ++ codes "\n")))

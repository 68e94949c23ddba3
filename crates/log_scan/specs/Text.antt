-- The front of a log file's bytes that has all of the file's text, whatever stands behind it.
use Rattle.std.specs.Prelude.{◌≡◌, ◌≢◌, ◌⊎◌, ℕ, ◌+◌, ◌^◌, ◌<◌, ◌≤◌, List, [], ◌∷◌, ◌++◌, length}
use Rattle.std.specs.List.{All}
use Rattle.log_codec.specs.Numbers.{number}
use Rattle.log_scan.specs.declared.reading.TheConstants.{HEADER_BYTES, SHORTEST, VOID_REST}

-- contents of bodies, whatever they are, each behind an open gate and its length, which counts the next gate too
abbrev pub framed : List (List ℕ) → List ℕ
framed [] = []
framed (content ∷ others) = 1 ∷ (number 8 (length content + 1) ++ (content ++ framed others))

-- the content of a body is no shorter than a mark
abbrev pub IsLong : List ℕ → Type 0
IsLong content = SHORTEST ≤ length content + 1

-- bytes begin with a closed gate
pub record IsClosed (bytes : List ℕ) : Type 0 where
  pub gate : ℕ
  pub more : List ℕ
  pub bytes_are : bytes ≡ gate ∷ more
  pub is_closed : gate ≢ 1

-- bytes begin with an open gate, but with the others behind them they are too few for the length that stands there, or
-- it is less than that of any body. Of what stands behind the length they have as much as a void body
pub record HasNoRoom (bytes others : List ℕ) : Type 0 where
  pub size : ℕ
  pub more : List ℕ
  pub bytes_are : bytes ≡ 1 ∷ (number 8 size ++ more)
  pub is_number : size < 256 ^ 8
  pub none : (size < SHORTEST) ⊎ (length (more ++ others) + 1 < size)
  pub seen : VOID_REST ≤ length more

-- bytes begin as a log file does, by its gates and lengths alone: a header and some contents; these bytes are left
pub record BeginsAsFile (bytes : List ℕ) : Type 0 where
  pub header : List ℕ
  pub contents : List (List ℕ)
  pub left : List ℕ
  pub bytes_are : bytes ≡ header ++ (framed contents ++ left)
  pub is_header : length header ≡ HEADER_BYTES
  pub are_contents : All IsLong contents

-- these bytes, with others behind them, have all of a file's text: going from gate to gate by the lengths, one comes to
-- its end in them
pub record EndsText (bytes others : List ℕ) : Type 0 where
  pub begins : BeginsAsFile bytes
  pub ends : IsClosed begins.left ⊎ HasNoRoom begins.left others

-- these bytes stand in front of a file, and are all of it, or have all of its text
pub record HoldsText (bytes file : List ℕ) : Type 0 where
  pub others : List ℕ
  pub file_is : file ≡ bytes ++ others
  pub holds : (others ≡ []) ⊎ EndsText bytes others

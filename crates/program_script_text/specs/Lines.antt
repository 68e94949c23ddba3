-- The lines of a text, and how much of one is buffered.
use Rattle.std.specs.Prelude.{◌≡◌, ◌≢◌, ℕ, ◌==◌, nat_le, if◌then◌else◌, Option, Some, None, List, [], ◌∷◌, ◌++◌, length}
use Rattle.std.specs.List.{All, AllByRecursion, slice_split, flat_map}
use Rattle.program_script_text.specs.declared.line_buffer.TheConstants.{MAX_LINE}

-- the line in bytes behind the last line feed, if there are any
abbrev pub last_line : List ℕ → List (List ℕ)
last_line bytes = if length bytes == 0 then [] else bytes ∷ []

-- the parts between line feeds without the last, where that is empty
abbrev pub without_empty_last : List (List ℕ) → List (List ℕ)
without_empty_last [] = []
without_empty_last (part ∷ []) = last_line part
without_empty_last (part ∷ next ∷ parts) = part ∷ without_empty_last (next ∷ parts)

-- the lines of a text, each without its line feed, which the last one may lack
abbrev pub text_lines : List ℕ → List (List ℕ)
text_lines text = without_empty_last (slice_split (λ b. b == 10) text)

-- the bytes of a line as far as they are buffered: none of them once they are more than 1,024 (MAX_LINE)
abbrev pub buffered : List ℕ → Option (List ℕ)
buffered bytes = if nat_le (length bytes) MAX_LINE then Some bytes else None

-- what is buffered after more bytes of the same line
abbrev pub held_after : Option (List ℕ) → List ℕ → Option (List ℕ)
held_after (Some bytes) more = buffered (bytes ++ more)
held_after None more = None

-- no byte is a line feed
abbrev pub HasNoLineFeed : List ℕ → Type 0
HasNoLineFeed bytes = All (λ b. b ≢ 10) bytes

-- the text is these lines, each with a line feed, and then bytes that no line feed has ended
pub record IsCut (text : List ℕ) (lines : List (List ℕ)) (rest : List ℕ) : Type 0 where
  pub whole : text ≡ flat_map (λ line. line ++ (10 ∷ [])) lines ++ rest
  pub each : AllByRecursion HasNoLineFeed lines
  pub last : HasNoLineFeed rest

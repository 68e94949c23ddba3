-- C_DATA, a customer's text, and what a Payment makes of it.
use Rattle.std.specs.Prelude.{ℕ, ◌≤◌, List, ◌++◌, length, take, replicate, All}
use Rattle.customer_data.specs.declared.words.TheConstants.{MIN_DATA, MAX_DATA}

-- C_DATA is a variable text of at most 500 characters (TPC-C 1.3.1), which is given at least 300 (TPC-C 4.3.3.1); here
-- the printable ones of ASCII
pub record IsData (text : List ℕ) : Type 0 where
  pub at_least : MIN_DATA ≤ length text
  pub at_most : length text ≤ MAX_DATA
  pub printable : All (λ b. (32 ≤ b) × (b ≤ 126)) text

-- the text of a Payment at the left of C_DATA, which is moved to the right by it; characters that are then beyond the
-- last place are lost (TPC-C 2.5.2.2)
abbrev pub put_left : List ℕ → List ℕ → List ℕ
put_left front text = take MAX_DATA (front ++ text)

-- the text that each customer begins with: the fewest characters, each the letter x (TPC-C 4.3.3.1 draws it; here it
-- isn't drawn)
abbrev pub first_text : List ℕ
first_text = replicate MIN_DATA 120

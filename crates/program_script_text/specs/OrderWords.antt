-- The words of an order's lines, as they are read.
use Rattle.std.specs.Prelude.{◌≡◌, ◌≢◌, ◌⊎◌, ◌<◌, ◌^◌, ℕ, List, ◌∷◌, map}
use Rattle.std.specs.Fmt.{decimal}
use Rattle.std.specs.List.{All}
use Rattle.money.specs.declared.refusal.Refusal.{Refusal}
use Rattle.money.specs.declared.refusal.Refusal.TheVariants.{BadLine, OutOfMemory}
use Rattle.tables.specs.declared.new_order.RequestedLine.{RequestedLine}
use Rattle.program_script_text.specs.Requests.{line_word, HasLineNumbers}

-- the word is no line's
abbrev pub IsNoLine : List ℕ → Type 0
IsNoLine word = (l : RequestedLine) → HasLineNumbers l → word ≢ line_word l

-- the words are no lines'
abbrev pub AreNoLines : List (List ℕ) → Type 0
AreNoLines ws = (ls : List RequestedLine) → All HasLineNumbers ls → ws ≢ map line_word ls

-- the words are not a customer's number with any lines behind it
abbrev pub AreNoOrder : List (List ℕ) → Type 0
AreNoOrder ws = (c : ℕ) (ls : List RequestedLine) → c < 2 ^ 32 → All HasLineNumbers ls → ws ≢ decimal c
    ∷ map line_word ls

-- the refusal of what is not read: there is no memory, or the words are wrong
abbrev pub IsUnread : Type 0 → Refusal → Type 0
IsUnread AreWrong refusal = (refusal ≡ OutOfMemory) ⊎ ((refusal ≡ BadLine) × AreWrong)

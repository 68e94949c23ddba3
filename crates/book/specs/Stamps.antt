-- The TIDs of the history, and the one that a commit takes (Silo, sections 4.2 and 4.4).
use Rattle.std.specs.Prelude.{◌≡◌, ℕ, ◌%◌, ◌≤◌, ◌<◌, ◌==◌, if◌then◌else◌, max, Option, IsSome, List, [], ◌∷◌}
use Rattle.std.specs.List.{All}
use Rattle.tidword.specs.TidWord.{tid_of, epoch_of}
use Rattle.tidword.specs.Lawful.{next}
use Rattle.readset.specs.Reads.{ReadSetView}
use Rattle.readset.specs.Writes.{value_for}
use Rattle.book.specs.declared.entry.Entry.{Entry}

-- a later entry as an earlier one wants it: of no earlier epoch, and of a larger TID where both write some record or
-- are of one terminal
pub record Follows (earlier later : Entry) : Type 0 where
  pub epochs : epoch_of earlier.tid ≤ epoch_of later.tid
  pub records : (n : ℕ) → IsSome (value_for earlier.writes n) → IsSome (value_for later.writes n)
      → earlier.tid < later.tid
  pub terminals : earlier.terminal ≡ later.terminal → earlier.tid < later.tid

-- each entry's TID has no status bits, and each entry follows all that stand before it
abbrev pub AreStamped : List Entry → Type 0
AreStamped [] = Unit {0}
AreStamped (e ∷ es) = (e.tid % 8 ≡ 0) × All (Follows e) es × AreStamped es

-- the TID of a terminal's last commit, and `last` where it has none
abbrev pub last_from : ℕ → ℕ → List Entry → ℕ
last_from last terminal [] = last
last_from last terminal (e ∷ es) = last_from (if e.terminal == terminal then e.tid else last) terminal es

-- the TID of a terminal's last commit, and 0 where it has none
abbrev pub last_of : ℕ → List Entry → ℕ
last_of terminal history = last_from 0 terminal history

-- the greatest TID of what was read, and 0 of nothing
abbrev pub greatest_tid : ReadSetView → ℕ
greatest_tid [] = 0
greatest_tid (read ∷ reads) = max (tid_of read.1.word) (greatest_tid reads)

-- the TID that a commit of a terminal takes in an epoch, behind this history and of what was read, where there is one
abbrev pub tid_for : List Entry → ℕ → ℕ → ReadSetView → Option ℕ
tid_for history terminal epoch reads = next (greatest_tid reads) (last_of terminal history) epoch

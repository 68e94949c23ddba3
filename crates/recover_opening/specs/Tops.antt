-- The epoch above which log files have nothing.
use Rattle.std.specs.Prelude.{ℕ, ◌≤◌, List, [], ◌∷◌, length, slice_index_or}
use Rattle.tidword.specs.TidWord.{epoch_of}
use Rattle.log_text.specs.Bodies.{BodyView, entries_in}
use Rattle.log_text.specs.Entries.{EntryView}
use Rattle.recover_lives.specs.Events.{IsTop}

-- the epoch of the last of some entries, and this one where there are none; and of a file's bodies
abbrev pub epoch_behind : ℕ → List EntryView → ℕ
epoch_behind before [] = before
epoch_behind before (e ∷ es) = epoch_behind (epoch_of e.tid) es

abbrev pub epoch_from : ℕ → List BodyView → ℕ
epoch_from before [] = before
epoch_from before (b ∷ bs) = epoch_from (epoch_behind before (entries_in b)) bs

-- the bodies of a logger's file, by its number
abbrev pub bodies_at : List (List BodyView) → ℕ → List BodyView
bodies_at files l = slice_index_or files l []

-- the last epoch of which files say anything: above it they have nothing, and it is the least such
pub record IsLastEpoch (loggers : ℕ) (files : ℕ → List BodyView) (top : ℕ) : Type 0 where
  pub is_top : IsTop loggers files top
  pub least : (n : ℕ) → IsTop loggers files n → top ≤ n

-- of all these files
abbrev pub IsTopOfAll : List (List BodyView) → ℕ → Type 0
IsTopOfAll files top = IsLastEpoch (length files) (bodies_at files) top

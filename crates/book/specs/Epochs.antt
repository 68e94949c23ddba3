-- What the book knows of the epoch, by its seat of the board (Silo, section 4.1).
use Rattle.std.specs.Prelude.{◌≡◌, ℕ, ◌≤◌, List, map, reverse}
use Rattle.tidword.specs.TidWord.{epoch_of}
use Rattle.board.specs.Steps.{known_epoch, counted_epochs}
use Rattle.board.specs.Seats.{SeatView, noted}
use Rattle.board.specs.declared.rule.WordStep.TheVariants.{LoadEpoch, CountCommit}
use Rattle.book.specs.declared.entry.Entry.{Entry}

-- the epoch that a seat has found last
abbrev pub found_epoch : SeatView → ℕ
found_epoch seat = known_epoch seat.board.plan.base seat.steps

-- a seat has loaded E once more, which is no lower than before
pub record LoadsEpoch (old new : SeatView) : Type 0 where
  pub epoch : ℕ
  pub later : found_epoch old ≤ epoch
  pub step : new ≡ noted old (LoadEpoch epoch)

-- and has then counted a commit of this epoch
pub record CountsCommit (old new : SeatView) : Type 0 where
  pub epoch : ℕ
  pub later : found_epoch old ≤ epoch
  pub steps : new ≡ noted (noted old (LoadEpoch epoch)) (CountCommit epoch)

-- a seat has counted each commit of the history, with its epoch
abbrev pub HasCounted : SeatView → List Entry → Type 0
HasCounted seat history = reverse (counted_epochs seat.steps) ≡ map (λ e. epoch_of e.tid) history

-- What each kind of step asks of its seat, and tells it: the step is then the seat's newest, and what it found is tied
-- to what the seat knew.
use Rattle.std.specs.Prelude.{◌≡◌, ℕ, ◌+◌, ◌<◌, ◌≤◌, List, ◌∷◌}
use Rattle.atomic_table.specs.declared.shared.Seat.{Seat}
use Rattle.atomic_table.specs.Seated.{TableId}
use Rattle.board.specs.declared.steps.TheConstants.{FLOORS}
use Rattle.board.specs.declared.rule.View.{View}
use Rattle.board.specs.declared.rule.WordStep.TheVariants.{LoadEpoch, AddEpoch, CountCommit, StoreFloor}
use Rattle.board.specs.declared.rule.WordStep.TheVariants.{StoreMark, LoadMark, RaiseDurable, LoadDurable}
use Rattle.board.specs.declared.rule.Role.TheVariants.{Clock, Logger}
use Rattle.board.specs.declared.rule.WordStep.{WordStep}
use Rattle.board.specs.Words.{mark_in, last_epoch}
use Rattle.board.specs.Steps.{known_epoch, stored_mark, seen_durable, RespectsFloors, AllStand}

-- a seat of the table with this id, which has a board's words
abbrev pub HasSeatAt : TableId → Seat (Unit {0}) View → Type 0
HasSeatAt table seat = (seat.table_id ≡ table) × (table.words ≡ 19)

-- an epoch that is at most every local mark, by what this seat has loaded, whatever the words are by now
abbrev pub IsUpToMarks : View → ℕ → Type 0
IsUpToMarks v epoch = (words : List ℕ) → AllStand words v.steps → (l : ℕ) → l < v.plan.loggers
    → epoch ≤ mark_in words l

-- what a seat knows once it has made this step
abbrev pub with_step : View → WordStep → View
with_step v step = record { plan = v.plan; role = v.role; dealt = v.dealt; steps = step ∷ v.steps }

-- what a seat knows once it has learnt what another one has seen of D
abbrev pub with_seen : View → View → View
with_seen v w = with_step v (LoadDurable (seen_durable w.plan.base w.steps))

pub record LoadsEpochOf (v : View) (found : ℕ) (w : View) : Type 0 where
  pub step : w ≡ with_step v (LoadEpoch found)
  pub later : known_epoch v.plan.base v.steps ≤ found
  pub clock : v.role ≡ Clock → known_epoch v.plan.base v.steps ≡ found
  pub bound : found ≤ last_epoch
  pub respects : RespectsFloors v.steps

pub record AddsEpochOf (v : View) (found : ℕ) (w : View) : Type 0 where
  pub step : w ≡ with_step v (AddEpoch (found + 1))
  pub known : known_epoch v.plan.base v.steps ≡ found

abbrev pub CountsCommitOf : View → View → Type 0
CountsCommitOf v w = w ≡ with_step v (CountCommit (known_epoch v.plan.base v.steps))

abbrev pub StoresFloorOf : ℕ → View → ℕ → View → Type 0
StoresFloorOf word v stored w = (l : ℕ) → word ≡ FLOORS + l → w ≡ with_step v (StoreFloor l stored)

abbrev pub StoresMarkOf : ℕ → View → ℕ → View → Type 0
StoresMarkOf word v stored w = w ≡ with_step v (StoreMark word stored)

abbrev pub LoadsMarkOf : ℕ → View → ℕ → View → Type 0
LoadsMarkOf word v found w = w ≡ with_step v (LoadMark word found)

abbrev pub RaisesDurableOf : ℕ → View → View → Type 0
RaisesDurableOf epoch v w = w ≡ with_step v (RaiseDurable epoch)

pub record LoadsDurableOf (v : View) (found : ℕ) (w : View) : Type 0 where
  pub step : w ≡ with_step v (LoadDurable found)
  pub later : seen_durable v.plan.base v.steps ≤ found
  pub own : (l : ℕ) → v.role ≡ Logger l → found ≤ stored_mark v.plan.base v.steps

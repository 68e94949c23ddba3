-- Replies that wait until their commits are durable (Silo, section 4.10).
use Rattle.std.specs.Prelude.{◌≡◌, ℕ, ◌≤◌, Bool, nat_le, List, [], ◌++◌, length}
use Rattle.std.specs.List.{take_while}
use Rattle.tidword.specs.TidWord.{epoch_of}
use Rattle.board.specs.declared.rule.WordStep.TheVariants.{LoadDurable}
use Rattle.board.specs.Seats.{SeatView, noted}
use Rattle.board.specs.Steps.{seen_durable}
use Rattle.book.specs.Done.{Done}

-- what contracts see of an outbox: the terminal's seat of the board; the replies that were released and those that
-- wait, in the order in which they were held; and how many more it has room for
pub record OutboxView : Type 0 where
  pub seat : SeatView
  pub released : List Done
  pub waiting : List Done
  pub room : ℕ

-- an outbox is as it was, but that its room may have risen
pub record IsSameBut (old new : OutboxView) : Type 0 where
  pub seat : new.seat ≡ old.seat
  pub released : new.released ≡ old.released
  pub waiting : new.waiting ≡ old.waiting
  pub room : old.room ≤ new.room

-- whether a commit is of this epoch or an earlier one
abbrev pub is_up_to : ℕ → Done → Bool
is_up_to epoch done = nat_le (epoch_of done.tid) epoch

-- the longest front of these replies without one of a later epoch
abbrev pub front : ℕ → List Done → List Done
front epoch replies = take_while (is_up_to epoch) replies

-- D is loaded once, and of what waits, the front up to that D is released, so many replies; all else is as before
pub record Acknowledges (old : OutboxView) (count : ℕ) (new : OutboxView) : Type 0 where
  pub durable : ℕ
  pub load : new.seat ≡ noted old.seat (LoadDurable durable)
  pub later : seen_durable old.seat.board.plan.base old.seat.steps ≤ durable
  pub count_is : count ≡ length (front durable old.waiting)
  pub released : new.released ≡ old.released ++ front durable old.waiting
  pub rest : old.waiting ≡ front durable old.waiting ++ new.waiting
  pub room : new.room ≡ old.room

-- the replies that were released, so many, are told no longer; those that wait still do
pub record ForgetsReleased (old : OutboxView) (count : ℕ) (new : OutboxView) : Type 0 where
  pub seat : new.seat ≡ old.seat
  pub count_is : count ≡ length old.released
  pub released : new.released ≡ []
  pub waiting : new.waiting ≡ old.waiting
  pub room : old.room ≤ new.room

-- What contracts see of a board and of its seats.
use Rattle.std.specs.Prelude.{ℕ, List, [], ◌∷◌}
use Rattle.atomic_table.specs.Seated.{TableId}
use Rattle.board.specs.declared.rule.Plan.{Plan}
use Rattle.board.specs.declared.rule.View.{View}
use Rattle.board.specs.declared.rule.Role.{Role}
use Rattle.board.specs.declared.rule.Role.TheVariants.{Terminal, Book, Clock, Logger, Gone}
use Rattle.board.specs.declared.rule.WordStep.{WordStep}

-- which words a board has, and what it opened with
pub record BoardView : Type 0 where
  pub table : TableId
  pub plan : Plan

-- which board a seat is of, who steps with it, and its steps, newest first
pub record SeatView : Type 0 where
  pub board : BoardView
  pub role : Role
  pub steps : List WordStep

-- a seat with which nobody has stepped
abbrev pub new_seat : BoardView → Role → SeatView
new_seat board role = record { board = board; role = role; steps = [] }

-- the seat after a step
abbrev pub noted : SeatView → WordStep → SeatView
noted seat step = record { board = seat.board; role = seat.role; steps = step ∷ seat.steps }

-- the number of a logger's seat
abbrev pub logger_number : Role → ℕ
logger_number Terminal = 0
logger_number Book = 0
logger_number Clock = 0
logger_number (Logger logger) = logger
logger_number Gone = 0

-- what is seen of a seat of this table that knows this
abbrev pub seat_view : TableId → View → SeatView
seat_view table v = record { board = record { table = table; plan = v.plan }; role = v.role; steps = v.steps }

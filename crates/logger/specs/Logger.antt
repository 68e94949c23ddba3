-- A logger: its file, its seat of the board, and what a turn does to the seat (Silo, section 4.10).
use Rattle.std.specs.Prelude.{◌≡◌, ℕ, ◌≤◌}
use Rattle.board.specs.declared.rule.Role.TheVariants.{Logger}
use Rattle.board.specs.declared.rule.WordStep.TheVariants.{StoreMark}
use Rattle.board.specs.Seats.{SeatView, noted}
use Rattle.board.specs.Steps.{stored_mark}
use Rattle.board.specs.Publishing.{Publishes}
use Rattle.log_header.specs.Header.{HeaderView}
use Rattle.logfile.specs.Standing.{LogFileView}

-- what contracts see of a logger over a disk of this type
pub record LoggerView (D : Type 0) : Type 0 where
  pub file : LogFileView D
  pub seat : SeatView

-- the local mark that a seat has set
abbrev pub local_mark : SeatView → ℕ
local_mark seat = stored_mark seat.board.plan.base seat.steps

-- a seat is that of a file's logger, one of as many as the file's header says, and its local mark is at most this one
pub record IsLoggerOf (header : HeaderView) (mark : ℕ) (seat : SeatView) : Type 0 where
  pub role : seat.role ≡ Logger header.logger
  pub loggers : seat.board.plan.loggers ≡ header.loggers
  pub local : local_mark seat ≤ mark

-- this mark is stored as the logger's local mark, and then published
abbrev pub MarksAndPublishes : HeaderView → ℕ → SeatView → ℕ → SeatView → Type 0
MarksAndPublishes header mark old least new =
    Publishes header.loggers (noted old (StoreMark header.logger mark)) least new

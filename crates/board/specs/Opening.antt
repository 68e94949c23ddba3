-- A board as it opens, and what is left at its end.
use Rattle.std.specs.Prelude.{◌≡◌, ◌<◌, ◌≤◌, ℕ, zero, suc, List, [], ◌∷◌, ◌++◌, replicate}
use mathlib.Core.Option.{some}
use lib.ListN.{get_elem?}
use Rattle.atomic_table.specs.Seated.{TableId}
use Rattle.tables.specs.declared.limits.TheConstants.{MAX_LOGGERS}
use Rattle.board.specs.declared.steps.TheConstants.{WORDS}
use Rattle.board.specs.declared.rule.Plan.{Plan}
use Rattle.board.specs.declared.rule.View.{View}
use Rattle.board.specs.declared.rule.Role.TheVariants.{Terminal, Book, Clock, Logger}
use Rattle.board.specs.declared.opening.BoardSeats.{BoardSeats}
use Rattle.board.specs.Words.{durable_in}
use Rattle.board.specs.Rule.{IsLawfulBoard}
use Rattle.board.specs.Seats.{BoardView, SeatView, new_seat, seat_view}

-- what a board's type keeps: its table has just the words, and was made for its plan, which has one logger or more, and
-- few
pub record IsBoard (table : TableId) (made_for plan : Plan) : Type 0 where
  pub words : table.words ≡ WORDS
  pub slots : table.slots ≡ 0
  pub planned : made_for ≡ plan
  pub some : 0 < plan.loggers
  pub few : plan.loggers ≤ MAX_LOGGERS

-- a seat for each of this many loggers, from logger 0
abbrev pub logger_seats : BoardView → ℕ → List SeatView
logger_seats board zero = []
logger_seats board (suc n) = logger_seats board n ++ new_seat board (Logger n) ∷ []

-- a board of this plan, and its seats, of which this many (`count`) are terminals'
pub record Opens (plan : Plan) (count : ℕ) (board : BoardView) (seats : BoardSeats) : Type 0 where
  pub planned : board.plan ≡ plan
  pub book : seats.book ≡ new_seat board Book
  pub clock : seats.clock ≡ new_seat board Clock
  pub loggers : seats.loggers.items ≡ logger_seats board plan.loggers
  pub terminals : seats.terminals.items ≡ replicate count (new_seat board Terminal)

-- the board ends with this D: its words and what its seats know, this one among them, meet the rule
pub record EndsWithDurable (board : BoardView) (seat : SeatView) (durable : ℕ) : Type 0 where
  pub words : List ℕ
  pub views : List View
  pub lawful : IsLawfulBoard board.plan words views
  pub last : durable_in words ≡ durable
  pub place : ℕ
  pub view : View
  pub there : get_elem? views place ≡ some view
  pub shows : seat_view board.table view ≡ seat

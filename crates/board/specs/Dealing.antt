-- How the seats of a board come out of the book's, before any step: the clock's, then each logger's in turn, and any
-- number of terminals'.
use Rattle.std.specs.Prelude.{◌≡◌, ℕ, ◌+◌, ◌-◌, []}
use Rattle.board.specs.declared.rule.Plan.{Plan}
use Rattle.board.specs.declared.rule.View.{View}
use Rattle.board.specs.declared.rule.Role.TheVariants.{Terminal, Book, Clock, Logger, Gone}

-- the book's seat at first, and what it knows once one role more has a seat
abbrev pub first_view : Plan → View
first_view plan = record { plan = plan; role = Book; dealt = 2; steps = [] }

abbrev pub dealt_on : View → View
dealt_on v = record { plan = v.plan; role = v.role; dealt = v.dealt + 1; steps = v.steps }

-- the new seats
abbrev pub clock_view : View → View
clock_view v = record { plan = v.plan; role = Clock; dealt = 0; steps = [] }

abbrev pub logger_view : View → View
logger_view v = record { plan = v.plan; role = Logger (v.dealt - 3); dealt = 0; steps = [] }

abbrev pub terminal_view : View → View
terminal_view v = record { plan = v.plan; role = Terminal; dealt = 0; steps = [] }

-- a terminal's seat that knows what this one knows, and a seat that is gone
abbrev pub told_view : View → View
told_view v = record { plan = v.plan; role = Terminal; dealt = 0; steps = v.steps }

abbrev pub gone_view : View
gone_view = record { plan = record { loggers = 0; base = 0 }; role = Gone; dealt = 0; steps = [] }

-- the book's seat before any step, with which this many role numbers are dealt
abbrev pub IsDealer : Plan → ℕ → View → Type 0
IsDealer plan dealt v = v ≡ record { plan = plan; role = Book; dealt = dealt; steps = [] }

use Rattle.std.proofs.Common.{◌≡◌, ℕ, ◌<◌, List, length}
use Rattle.board.specs.declared.rule.Role.TheVariants.{Logger}
use Rattle.board.specs.Publishing.{IsLeastMark, with_loads}
use Rattle.board.specs.Seats.{seat_view}
use Rattle.board.proofs.board.Board.least_mark.Given as goal

abbrev pub invariant-loop-logger : goal.invariant-loop-logger
invariant-loop-logger l = (l.seat-inside.seat.me.0.role ≡ Logger l.seat-inside.number) × (l.seat-inside.number < l.seat-inside.seat.me.0.plan.loggers)
    × (marks : List ℕ) × (length marks ≡ l.logger) × IsLeastMark l.least marks
    × (seat_view l.seat-inside.seat.table_id l.seat-inside.seat.me.0
    ≡ record { board = l.fn.seat.board; role = l.fn.seat.role; steps = with_loads marks l.fn.seat.steps })

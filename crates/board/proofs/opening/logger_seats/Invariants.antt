use Rattle.std.proofs.Common.{◌≡◌, ◌+◌}
use Rattle.board.specs.Dealing.{IsDealer}
use Rattle.board.specs.Seats.{seat_view}
use Rattle.board.specs.Opening.{logger_seats}
use Rattle.board.proofs.opening.logger_seats.Given as goal

abbrev pub invariant-loop-number : goal.invariant-loop-number
invariant-loop-number l = (l.book.table_id ≡ l.initial.book.table_id) × IsDealer l.initial.book.me.0.plan (l.number + 3) l.book.me.0
    × (l.seats.items ≡ logger_seats (seat_view l.initial.book.table_id l.initial.book.me.0).board l.number)

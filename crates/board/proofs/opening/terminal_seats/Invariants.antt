use Rattle.std.proofs.Common.{◌≡◌, replicate}
use Rattle.board.specs.declared.rule.Role.TheVariants.{Terminal}
use Rattle.board.specs.Seats.{new_seat, seat_view}
use Rattle.board.proofs.opening.terminal_seats.Given as goal

abbrev pub invariant-loop : goal.invariant-loop
invariant-loop l = (l.book.table_id ≡ l.initial.book.table_id) × (l.book.me.0 ≡ l.initial.book.me.0)
    × (l.seats.items ≡ replicate l.counter (new_seat (seat_view l.initial.book.table_id l.initial.book.me.0).board Terminal))

-- Which logger has the clock.
use Rattle.std.specs.Prelude.{ℕ, zero, suc, Option, None, List, [], ◌∷◌}
use Rattle.board.specs.Seats.{SeatView}

-- the clocks of so many loggers: the first has this one, if it isn't given away, and the others none
abbrev pub clocks : Option SeatView → ℕ → List (Option SeatView)
clocks clock zero = []
clocks clock (suc loggers) = clock ∷ clocks None loggers

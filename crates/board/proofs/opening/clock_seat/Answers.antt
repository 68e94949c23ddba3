use Rattle.std.proofs.Common.{rules}
use Rattle.board.proofs.Dealing.{deals_clock}
use Rattle.board.proofs.opening.clock_seat.Goals as goal

pub split_seat-seat-requires : goal.split_seat-seat-requires
split_seat-seat-requires c = (search rules, search rules, deals_clock _ _ _ c.requires.dealer)

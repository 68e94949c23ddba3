use Rattle.std.proofs.Common.{rules, ap}
use Rattle.board.specs.Rule.{is_gone}
use Rattle.board.proofs.Dealing.{deals_terminal}
use Rattle.board.proofs.opening.terminal_seat.Goals as goal

pub split_seat-seat-requires : goal.split_seat-seat-requires
split_seat-seat-requires c = (search rules, search rules, deals_terminal _ _ _ (ap is_gone c.requires.here))

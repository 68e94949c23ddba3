use Rattle.std.proofs.Common.{rules}
use Rattle.board.proofs.Dealing.{deals_logger}
use Rattle.board.proofs.opening.logger_seat.Goals as goal

pub split_seat-seat-requires : goal.split_seat-seat-requires
split_seat-seat-requires c = (search rules, search rules, deals_logger _ _ _ c.args.number c.requires.number c.requires.dealer)

use Rattle.std.proofs.Common.{rules}
use Rattle.board.proofs.Dealing.{tells_durable}
use Rattle.board.proofs.steps.tell_durable.Goals as goal

pub split_seat-requires : goal.split_seat-requires
split_seat-requires c = (search rules, search rules, tells_durable _ _ _ c.requires.here)

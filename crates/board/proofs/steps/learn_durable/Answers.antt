use Rattle.std.proofs.Common.{rules}
use Rattle.board.proofs.Dealing.{gathers_durable}
use Rattle.board.proofs.steps.learn_durable.Goals as goal

pub join_seat-requires : goal.join_seat-requires
join_seat-requires c = (search rules, search rules, search rules, search rules, gathers_durable _ _ _ _ _ c.requires.here)

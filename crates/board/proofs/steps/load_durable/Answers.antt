use Rattle.std.proofs.Common.{rules}
use Rattle.board.proofs.Allowing.{loads_durable}
use Rattle.board.proofs.steps.load_durable.Goals as goal

pub load-requires : goal.load-requires
load-requires c = (search rules, search rules, loads_durable _ _ _ _ c.requires.here)

use Rattle.std.proofs.Common.{rules}
use Rattle.board.proofs.Allowing.{loads_epoch}
use Rattle.board.proofs.steps.load_epoch.Goals as goal

pub load-requires : goal.load-requires
load-requires c = (search rules, search rules, loads_epoch _ _ _ _ c.requires.here)

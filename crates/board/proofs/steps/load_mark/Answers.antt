use Rattle.std.proofs.Common.{rules}
use Rattle.board.proofs.Allowing.{loads_mark}
use Rattle.board.proofs.steps.load_mark.Goals as goal

pub load-requires : goal.load-requires
load-requires c = (search rules, search rules, loads_mark _ _ _ _ _)

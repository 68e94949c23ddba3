use Rattle.std.proofs.Common.{rules}
use Rattle.board.proofs.Allowing.{adds_epoch}
use Rattle.board.proofs.steps.add_epoch.Goals as goal

pub fetch_add-requires : goal.fetch_add-requires
fetch_add-requires c = (search rules, search rules, adds_epoch _ _ _ _ c.requires.clock c.requires.room)

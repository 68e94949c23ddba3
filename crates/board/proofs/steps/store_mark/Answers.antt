use Rattle.std.proofs.Common.{rules}
use Rattle.board.proofs.Allowing.{stores_mark}
use Rattle.board.proofs.steps.store_mark.Goals as goal

pub store-requires : goal.store-requires
store-requires c = (search rules, search rules, stores_mark _ _ _ c.args.logger c.args.mark _ c.requires.logger.0 c.requires.more)

use Rattle.std.proofs.Common.{rules}
use Rattle.board.proofs.Allowing.{stores_floor}
use Rattle.board.proofs.steps.store_floor.Goals as goal

pub store-requires : goal.store-requires
store-requires c = (search rules, search rules, stores_floor _ _ _ c.args.logger c.args.epoch _ c.requires.book c.requires.logger c.requires.loaded)

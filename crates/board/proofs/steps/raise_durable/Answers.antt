use Rattle.std.proofs.Common.{rules}
use Rattle.board.proofs.Allowing.{raises_durable}
use Rattle.board.proofs.steps.raise_durable.Goals as goal

pub fetch_max-requires : goal.fetch_max-requires
fetch_max-requires c = (search rules, search rules, raises_durable _ _ _ c.args.epoch _ c.requires.here c.requires.below)

use Rattle.std.proofs.Common.{rules}
use Rattle.board.proofs.Allowing.{counts_commit}
use Rattle.board.proofs.steps.count_commit.Goals as goal

pub fetch_add-requires : goal.fetch_add-requires
fetch_add-requires c = (search rules, search rules, counts_commit _ _ _ _ c.requires.book c.requires.room)

use Rattle.std.proofs.Common.{rules}
use Rattle.annals.proofs.Moves.{shares}
use Rattle.annals.proofs.steps.share_pass.Goals as goal

pub split_seat-requires : goal.split_seat-requires
split_seat-requires g c = (search rules, search rules, shares _ _ _ _)

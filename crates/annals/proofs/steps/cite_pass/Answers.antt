use Rattle.std.proofs.Common.{rules}
use Rattle.annals.proofs.Moves.{cites}
use Rattle.annals.proofs.steps.cite_pass.Goals as goal

pub split_seat-requires : goal.split_seat-requires
split_seat-requires g c = (search rules, search rules, cites _ _ _ _)

use Rattle.std.proofs.Common.{rules}
use Rattle.annals.proofs.Moves.{compares}
use Rattle.annals.proofs.steps.compare_claims.Goals as goal

pub load-requires : goal.load-requires
load-requires g c = (search rules, search rules, compares _ _ _ _ _)

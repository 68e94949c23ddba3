use Rattle.std.proofs.Common.{rules}
use Rattle.annals.proofs.Moves.{hears}
use Rattle.annals.proofs.steps.hear_pass.Goals as goal

pub join_seat-requires : goal.join_seat-requires
join_seat-requires g c = (search rules, search rules, search rules, search rules, hears _ _ _ _ _ _)

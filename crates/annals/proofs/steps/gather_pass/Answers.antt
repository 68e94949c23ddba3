use Rattle.std.proofs.Common.{rules}
use Rattle.annals.proofs.Moves.{gathers}
use Rattle.annals.proofs.steps.gather_pass.Goals as goal

pub join_seat-requires : goal.join_seat-requires
join_seat-requires g c = (search rules, search rules, search rules, search rules, gathers _ _ _ _ _ _)

use Rattle.std.proofs.Common.{rules}
use Rattle.annals.proofs.Moves.{begins}
use Rattle.annals.proofs.steps.begin_pass.Goals as goal

pub load_new_seat-seat-requires : goal.load_new_seat-seat-requires
load_new_seat-seat-requires g c = (search rules, begins _ _ _)

use Rattle.tables_laws.proofs.Reaching.{room_left}
use Rattle.tables_laws.proofs.reach_leaves_room.Goals as goal

pub returns : goal.returns
returns c = λ t n few h. room_left n t few h

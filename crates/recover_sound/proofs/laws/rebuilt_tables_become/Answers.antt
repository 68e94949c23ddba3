use Rattle.recover_sound.proofs.Lawful.{become}
use Rattle.recover_sound.proofs.laws.rebuilt_tables_become.Goals as goal

pub returns : goal.returns
returns c = λ t0 t seed strings files wf are rebuilt. become t0 t seed strings files wf are rebuilt

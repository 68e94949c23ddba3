use Rattle.recover_sound.proofs.Lawful.{well_formed_where}
use Rattle.recover_sound.proofs.laws.rebuilt_tables_are_well_formed_where_rows_belong.Goals as goal

pub returns : goal.returns
returns c = λ t0 t seed strings files wf are rebuilt. well_formed_where t0 t seed strings files wf are rebuilt

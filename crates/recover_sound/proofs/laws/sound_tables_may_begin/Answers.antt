use Rattle.recover_sound.proofs.Beginning.{sound_may_begin}
use Rattle.recover_sound.proofs.laws.sound_tables_may_begin.Goals as goal

pub returns : goal.returns
returns c = λ t0 t seed strings files scale wf are rebuilt sound.
    sound_may_begin t0 t seed strings files scale wf are rebuilt sound

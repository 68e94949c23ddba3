use Rattle.recover_sound.proofs.Beginning.{may_begin}
use Rattle.recover_sound.proofs.laws.reached_tables_may_begin.Goals as goal

pub returns : goal.returns
returns c = λ t0 t rows commits scale within of reached. may_begin t0 t rows commits scale within of reached

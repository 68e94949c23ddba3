use Rattle.recover_laws.proofs.Joined.{hold_the_cut}
use Rattle.recover_laws.proofs.files_hold_the_cut.Goals as goal

pub returns : goal.returns
returns c = λ s files history stamped hold. hold_the_cut s files history stamped hold

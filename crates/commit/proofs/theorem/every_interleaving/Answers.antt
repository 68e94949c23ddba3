use Rattle.commit.proofs.Sound.{every_run}
use Rattle.commit.proofs.theorem.every_interleaving.Goals as goal

pub returns : goal.returns
returns c = every_run

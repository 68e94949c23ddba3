use Rattle.commit.proofs.Woven.{woven}
use Rattle.commit.proofs.sections.others_may_act_between.Goals as goal

pub returns : goal.returns
returns c = woven

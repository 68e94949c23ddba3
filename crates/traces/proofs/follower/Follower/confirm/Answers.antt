use Rattle.std.proofs.Common.{refl}
use Rattle.traces.proofs.Steps.{confirm_is_followed}
use Rattle.traces.proofs.follower.Follower.confirm.Goals as goal

pub returns : goal.returns
returns c = confirm_is_followed c.args._trace.now c.args.self.now c.args.logger c.in-Some.lane c.in-Some.ensures _ refl refl refl refl refl

use Rattle.std.proofs.Common.{refl}
use Rattle.traces.proofs.Steps.{load_is_followed}
use Rattle.traces.proofs.follower.Follower.load_mark.Goals as goal

pub returns : goal.returns
returns c = load_is_followed c.args._trace.now c.args.self.now c.args.logger c.in-Some.lane c.in-Some.ensures _ c.in-Some-lane.next c.least_with.result
    c.in-Some-lane.ensures c.least_with.ensures.first c.least_with.ensures.later refl refl refl refl refl

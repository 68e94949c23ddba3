use Rattle.std.proofs.Common.{refl, subst}
use Rattle.traces.specs.Shown.{CallsLane}
use Rattle.traces.proofs.Steps.{call_is_followed}
use Rattle.traces.proofs.follower.Follower.call.Goals as goal

pub returns : goal.returns
returns c = call_is_followed c.args.trace.now c.args.self.now c.args.logger c.in-Some.lane c.in-Some.ensures c.in-Some-call.call.now c.in-Some-call.ensures.at _
    c.in-Some-2.lane (subst (CallsLane c.args.trace.now c.args.logger c.in-Some.lane c.in-Some-call.call.now) c.in-Some-2.is c.in_ok-lane.ensures)
    refl refl refl refl refl

use Rattle.std.proofs.Common.{◌≡◌, ◌∙◌, length, refl}
use Rattle.traces.proofs.Steps.{raise_is_followed}
use Rattle.traces.proofs.follower.Follower.raise_durable.Goals as goal

pub returns : goal.returns
returns c =
    let all : c.in-Some.lane.loaded ≡ length c.args.self.now.lanes.items = c.if-lane-len.false ∙ c.len.ensures ∙ c.args.self.now.lanes.ok.0 in
    raise_is_followed c.args._trace.now c.args.self.now c.args.logger c.in-Some.lane c.in-Some.ensures _ all refl refl refl c.max-self.ensures refl

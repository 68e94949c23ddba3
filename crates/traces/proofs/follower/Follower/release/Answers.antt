use Rattle.std.proofs.Common.{◌∙◌}
use Rattle.traces.proofs.Steps.{release_is_judged}
use Rattle.traces.proofs.follower.Follower.release.Goals as goal

pub returns : goal.returns
returns c = release_is_judged c.args.trace.now c.args.self.now c.args.place c.in-Some.entry.now c.if-self-place.false c.in-Some.ensures.at
    c.from.result (c.from.ensures ∙ c.epoch.ensures)

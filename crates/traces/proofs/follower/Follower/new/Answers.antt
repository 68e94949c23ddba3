use Rattle.std.proofs.Common.{◌≡◌, ◌+◌, refl, arith}
use Rattle.traces.proofs.Openings.{opening_shown}
use Rattle.traces.proofs.follower.Follower.new.Goals as goal

pub returns : goal.returns
returns c =
    let epoch : c.in-Some.epoch ≡ c.args.base + 1 = omega (arith, c.in-Some.ensures) in
    opening_shown c.args.base c.args.starts.now _ epoch epoch refl refl c.in_ok-lanes.ensures.count c.in_ok-lanes.ensures.each

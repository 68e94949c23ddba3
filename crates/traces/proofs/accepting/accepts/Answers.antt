use Rattle.std.proofs.Common.{sym}
use Rattle.traces.proofs.Turns.{from_opening}
use Rattle.traces.proofs.accepting.accepts.Goals as goal

pub returns : goal.returns
returns c = from_opening c.args.trace.now c.args.base c.args.starts.now c.args.steps.now _ c.follow_all.result (sym c.requires)
    c.in_ok-follower.ensures c.follow_all.ensures

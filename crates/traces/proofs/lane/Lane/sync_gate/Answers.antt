use Rattle.std.proofs.Common.{◌≡◌, ◌+◌, refl, arith}
use Rattle.traces.proofs.Lanes.{gate_synced}
use Rattle.traces.proofs.lane.Lane.sync_gate.Goals as goal

pub returns : goal.returns
returns c =
    let end : c.in-Some.end ≡ c.args.self.end + c.args.batched.length = omega (arith, c.in-Some.ensures) in
    gate_synced c.args._trace.now c.args._logger c.args.self c.args.batched c.args.call.now c.requires.batched c.requires.phase
    (c.if-not-is_sync.ensures.0 refl) c.in-Some.end end

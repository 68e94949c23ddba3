use Rattle.std.proofs.Common.{◌≡◌, true, false}
use Rattle.traces.proofs.Lanes.{gate_not_opened}
use Rattle.traces.proofs.lane.Lane.open_gate.Goals as goal

pub returns-then-not-is_write_of : goal.returns-then-not-is_write_of
returns-then-not-is_write_of c =
    gate_not_opened c.args._trace.now c.args._logger c.args.self c.args.batched c.args.call.now c.requires.batched c.requires.phase
    (λ write. let never : false ≡ true = c.if-not-is_write_of.ensures.1 write in absurd cc)

use Rattle.std.proofs.Common.{rules}
use Rattle.terminals.proofs.Telling.{keeps_acknowledged}
use Rattle.terminals.proofs.terminal.Terminal.acknowledge.Goals as goal

pub invariant_of-self : goal.invariant_of-self
invariant_of-self g c = (
  search rules,
  search rules,
  search rules,
  search rules,
  keeps_acknowledged _ _ _ _ c.acknowledge.ensures c.self.invariant.4,
)

use Rattle.std.proofs.Common.{ap}
use Rattle.std.proofs.lemmas.Option.{same_Some}
use Rattle.rows.specs.declared.index.Last.{Last}
use Rattle.queries.proofs.last_order.read_last.Goals as goal

pub returns-clause-last : goal.returns-clause-last
returns-clause-last g c = λ t h. ap (λ (l : Last). l.order) (same_Some _ _ (c.in_ok-last.ensures.row t h))

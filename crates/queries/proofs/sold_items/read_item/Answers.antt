use Rattle.std.proofs.Common.{subst}
use Rattle.std.proofs.lemmas.Option.{same_Some}
use Rattle.tables.specs.Keys.{IsItemKey}
use Rattle.queries.proofs.sold_items.read_item.Goals as goal

pub returns-in-Some-clause-range : goal.returns-in-Some-clause-range
returns-in-Some-clause-range g c = λ x is.
    subst (IsItemKey g.K.Start.tables.scale) (same_Some c.in-Some.line.item x is) (c.in_ok-line.ensures.range c.in-Some.line c.in-Some.is).item

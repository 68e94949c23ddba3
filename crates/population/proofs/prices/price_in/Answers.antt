use Rattle.std.proofs.Common.{Some, None, ◌∙◌}
use Rattle.population.proofs.Listed.{looked_up}
use Rattle.population.proofs.prices.price_in.Goals as goal

pub returns-in_err-row : goal.returns-in_err-row
returns-in_err-row c = c.from_residual.ensures ∙ looked_up c.args.tables.now c.args.item None c.in_err-row.ensures.value

pub returns : goal.returns
returns c = looked_up c.args.tables.now c.args.item (Some c.in_ok-row.row.now) c.in_ok-row.ensures.value

use Rattle.population.specs.Initial.{initial}
use Rattle.neworder.proofs.Pricing.{IsPricedTo}
use Rattle.neworder.proofs.prices.price_lines.Given as goal

-- the lines so far have their amounts
abbrev pub invariant-loop-line : goal.invariant-loop-line
invariant-loop-line l = IsPricedTo (initial l.fn.population) l.fn.lines l.line-index l.amounts.items l.sum

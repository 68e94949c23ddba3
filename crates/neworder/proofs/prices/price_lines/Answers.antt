use Rattle.std.proofs.Common.{◌+◌, ◌+ℤ◌, ℤ, List, slice_index_or, refl, sym, subst}
use Rattle.tables.specs.declared.new_order.RequestedLine.{RequestedLine}
use Rattle.population.specs.Initial.{initial}
use Rattle.neworder.proofs.Pricing.{IsPricedTo, priced_next}
use Rattle.neworder.proofs.prices.price_lines.Goals as goal

pub loop-line-preserved : goal.loop-line-preserved
loop-line-preserved c =
    let t = initial c.args.population.now in
    let ls = c.args.lines.now in
    let i = c.loop-line.line-index in
    let none : RequestedLine = record { item = 0; supply_warehouse = 0; quantity = 0 } in
    let line = slice_index_or ls i none in
    let here = c.in-Some.ensures in
    let next = priced_next t ls i c.loop-line.amounts.items c.loop-line.sum c.loop-line.invariant line none refl c.loop-line-test.true here.there
    c.in-Some.amount here.amount here.range.0 here.range.1 in
    subst (λ (sum : ℤ). IsPricedTo t ls (i + 1) c.push.new.self.items sum) (sym c.add-sum.ensures)
    (subst (λ (amounts : List ℤ). IsPricedTo t ls (i + 1) amounts (c.loop-line.sum +ℤ c.in-Some.amount)) (sym c.in-Ok-push.ensures.items) next)

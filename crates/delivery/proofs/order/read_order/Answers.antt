use Rattle.std.proofs.Common.{IsSome, true≢false, sym, ◌∙◌, subst}
use Rattle.readset.proofs.UnderWay.{candidate_still}
use Rattle.delivery.proofs.order.read_order.Goals as goal

pub returns-in-Some-clause-range : goal.returns-in-Some-clause-range
returns-in-Some-clause-range g c = let is = c.in_ok-order.ensures.range c.in-Some.order c.in-Some.is in (is.customer, is.row.line_count.1)

pub returns-in-None-clause-order : goal.returns-in-None-clause-order
returns-in-None-clause-order g c = λ t h.
    let there = c.requires.there t (candidate_still g.K.Start.tables c.args.transaction.now c.read_row.new.transaction 1 c.read_row.ensures.reads t h) in
    true≢false (sym (subst (λ o. IsSome o) (c.in_ok-order.ensures.row t h ∙ c.in-None.is) there))

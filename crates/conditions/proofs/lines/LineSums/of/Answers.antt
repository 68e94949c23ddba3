use Rattle.std.proofs.Common.{arith}
use Rattle.std.proofs.lemmas.Result.{IfOk-weaker}
use Rattle.conditions.proofs.LineSteps.{under_way_all, under_way_more, lines_within, line_sums}
use Rattle.conditions.proofs.lines.LineSums.of.Goals as goal

pub loop-key-init : goal.loop-key-init
loop-key-init c = rw (c.into_iter-key-iterator.ensures.into_iter_gives, c.iter-key-items.ensures.rest)
    (under_way_all _ _ _ c.new.ensures.nothing c.new-2.ensures.nothing c.new-3.ensures.nothing c.new-4.ensures
    (record { districts = c.new.ensures.within; orders = c.new-2.ensures.within; delivered = c.new-3.ensures.within }))

pub add_line-requires : goal.add_line-requires
add_line-requires c = lines_within c.loop-key.sums _ _ (omega arith) c.loop-key.invariant.within

pub loop-key-preserved : goal.loop-key-preserved
loop-key-preserved c = under_way_more c.args.tables.now.orders.entries c.args.tables.now.lines.entries
    c.loop-key.key-iterator c.next.new.self c.in-Some.key.now c.in-Some.row.now c.loop-key.sums c.add_line.new.sums c.in-Some.ensures.steps c.loop-key.invariant
    c.in_ok-add_line.ensures.added c.in_ok-add_line.ensures.within

pub close-requires : goal.close-requires
close-requires c = lines_within c.loop-key.sums _ _ (omega arith) c.loop-key.invariant.within

pub returns : goal.returns
returns c = IfOk-weaker c.close.result _ _ (λ sums closed. line_sums c.args.tables.now c.loop-key.key-iterator
    c.loop-key.sums sums c.iter-key-items.ensures.ordered c.in-None.ensures.steps.0 c.loop-key.invariant closed) c.close.ensures

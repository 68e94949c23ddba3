use Rattle.std.proofs.Common.{◌≡◌, ◌+◌, ◌-◌, sym, ap, ◌∙◌, subst, arith}
use Rattle.readset.proofs.MoreReads.{still_read, keeps_twice}
use Rattle.readset.proofs.UnderWay.{goes_on, goes_on_twice, candidate_still, candidate_then}
use Rattle.readset.specs.Changes.{puts_all}
use Rattle.readset.specs.Transaction.{AtAll}
use Rattle.tables.specs.Keys.{customer_key}
use Rattle.tables.specs.declared.keys.DistrictKey.{DistrictKey}
use Rattle.tables.specs.declared.keys.CustomerKey.{CustomerKey}
use Rattle.delivery.specs.Steps.{AreDone}
use Rattle.delivery.specs.Ending.{IsCredited, ending_changes}
use Rattle.delivery.proofs.Ended.{none_dated_yet, done_next, order_waits, next_is, on_ok}
use Rattle.delivery.proofs.order.deliver_order.Goals as goal

pub read_order-requires-clause-there : goal.read_order-requires-clause-there
read_order-requires-clause-there g c = λ t h.
    order_waits t c.args.delivery.now (c.args.key.district - 1) c.args.key h.well_formed
    (next_is c.args.delivery.now c.args.key c.requires.home c.requires.key.1.0) (c.requires.waits t h)

pub date_lines-requires-clause-dated : goal.date_lines-requires-clause-dated
date_lines-requires-clause-dated g c =
    none_dated_yet g.K.Start.tables c.args.delivery.now (c.args.key.district - 1) c.args.key.order c.args.transaction.now c.read_order.new.transaction 1
    c.requires.done c.read_order.ensures.reads

pub returns-in_err-sum-clause-goes_on : goal.returns-in_err-sum-clause-goes_on
returns-in_err-sum-clause-goes_on g c =
    let count = c.in_ok-order.ensures.range.1 in
    goes_on_twice c.args.transaction.now c.read_order.new.transaction c.date_lines.new.transaction 1 0 _ _ 17 18
    (goes_on 1 0 c.args.transaction.now c.read_order.new.transaction c.read_order.ensures.reads) c.date_lines.ensures.goes_on
    (omega (arith, count)) (omega (arith, count))

pub returns-in_err-customer-clause-goes_on : goal.returns-in_err-customer-clause-goes_on
returns-in_err-customer-clause-goes_on g c =
    let count = c.in_ok-order.ensures.range.1 in
    goes_on_twice c.args.transaction.now c.date_lines.new.transaction c.credit_buyer.new.transaction 16 15 1 0 17 18
    (goes_on_twice c.args.transaction.now c.read_order.new.transaction c.date_lines.new.transaction 1 0 _ _ 16 15
    (goes_on 1 0 c.args.transaction.now c.read_order.new.transaction c.read_order.ensures.reads) c.date_lines.ensures.goes_on
    (omega (arith, count)) (omega (arith, count)))
    (goes_on 1 0 c.date_lines.new.transaction c.credit_buyer.new.transaction c.credit_buyer.ensures.reads) (omega arith) (omega arith)

pub end_order-requires-clause-holds_new_order : goal.end_order-requires-clause-holds_new_order
end_order-requires-clause-holds_new_order g c =
    still_read c.args.transaction.now.reads c.credit_buyer.new.transaction.reads _
    (keeps_twice c.args.transaction.now.reads c.read_order.new.transaction.reads c.credit_buyer.new.transaction.reads c.read_order.ensures.reads.keeps
    (keeps_twice c.read_order.new.transaction.reads c.date_lines.new.transaction.reads c.credit_buyer.new.transaction.reads c.date_lines.ensures.goes_on.keeps
    c.credit_buyer.ensures.reads.keeps)) c.requires.holds_new_order

pub end_order-requires-clause-holds_order : goal.end_order-requires-clause-holds_order
end_order-requires-clause-holds_order g c =
    still_read c.read_order.new.transaction.reads c.credit_buyer.new.transaction.reads _
    (keeps_twice c.read_order.new.transaction.reads c.date_lines.new.transaction.reads c.credit_buyer.new.transaction.reads c.date_lines.ensures.goes_on.keeps
    c.credit_buyer.ensures.reads.keeps) c.in_ok-order.ensures.holds

pub returns-clause-done : goal.returns-clause-done
returns-clause-done g c = on_ok c.end_order.result ended c.end_order.ensures.written
  where
    ended : c.end_order.new.transaction.writes ≡ puts_all g.K.Start.tables.scale c.credit_buyer.new.transaction.writes
        (ending_changes c.args.delivery.now c.args.key c.in_ok-order.order c.in_ok-customer.customer)
        → AreDone g.K.Start.tables c.args.delivery.now c.args.key.district 0 c.end_order.new.transaction
    ended written =
        let x = c.args.delivery.now in
        let k = c.args.key in
        let n = k.district - 1 in
        let t0 = g.K.Start.tables in
        let next : k.district ≡ n + 1 = omega (arith, c.requires.key.1.0) in
        let order = c.in_ok-order.order in
        let read = c.read_order.new.transaction in
        let dated = c.date_lines.new.transaction in
        let last = c.credit_buyer.new.transaction in
        subst (λ m. AreDone t0 x m 0 c.end_order.new.transaction) (sym next)
        (done_next t0 x n k (next_is x k c.requires.home c.requires.key.1.0) dated last c.in_ok-sum.sum order c.in_ok-customer.customer
        c.in_ok-sum.ensures.dated c.credit_buyer.ensures.reads c.requires.key
        (λ t h. c.in_ok-order.ensures.order t (candidate_then t0 read dated _ _ c.date_lines.ensures.goes_on t h))
        (c.requires.key.0, c.requires.key.1, c.in_ok-order.ensures.range.0) (subst (λ (b : CustomerKey). AtAll t0 last (IsCredited b c.in_ok-sum.sum c.in_ok-customer.customer))
        (c.customer_key-buyer.ensures ∙ ap (λ (h : DistrictKey). customer_key h order.customer) c.district_key.ensures)
        c.in_ok-customer.ensures.credited)
        (λ t h. c.requires.waits t
        (candidate_still t0 c.args.transaction.now read 1 c.read_order.ensures.reads t (candidate_then t0 read dated _ _ c.date_lines.ensures.goes_on t h)))
        c.end_order.new.transaction c.end_order.ensures.reads written)

pub returns-clause-goes_on : goal.returns-clause-goes_on
returns-clause-goes_on g c =
    let count = c.in_ok-order.ensures.range.1 in
    goes_on_twice c.args.transaction.now c.credit_buyer.new.transaction c.end_order.new.transaction 17 15 0 3 17 18
    (goes_on_twice c.args.transaction.now c.date_lines.new.transaction c.credit_buyer.new.transaction 16 15 1 0 17 15
    (goes_on_twice c.args.transaction.now c.read_order.new.transaction c.date_lines.new.transaction 1 0 _ _ 16 15
    (goes_on 1 0 c.args.transaction.now c.read_order.new.transaction c.read_order.ensures.reads) c.date_lines.ensures.goes_on
    (omega (arith, count)) (omega (arith, count)))
    (goes_on 1 0 c.date_lines.new.transaction c.credit_buyer.new.transaction c.credit_buyer.ensures.reads) (omega arith) (omega arith))
    c.end_order.ensures.goes_on (omega arith) (omega arith)

use Rattle.std.proofs.Common.{◌∙◌, sym}
use Rattle.std.specs.FinMap.{from_entries}
use Rattle.tables.specs.Keys.{order_of}
use Rattle.tables.proofs.Orders.{exact_order}
use Rattle.tables.proofs.KeyTests.{is_customer-key}
use Rattle.conditions.proofs.Told.{get-walked}
use Rattle.conditions.proofs.Orderers.{no_order, line_of_orderer}
use Rattle.conditions.proofs.shares.DeliveredShareLineKeyOrderLine.group.Goals as goal

pub returns-in_default-clause-none : goal.returns-in_default-clause-none
returns-in_default-clause-none c = λ k.
    no_order (from_entries c.args.self.now.orders) k c.args.key.now c.args.row.now
    (get-walked exact_order c.args.self.now.orders (order_of c.args.key.now) ∙ sym (rw c.order_key.ensures at c.in_default.ensures.value))

pub returns-clause-some : goal.returns-clause-some
returns-clause-some c = λ k.
    let order = c.in-Some.order.now in
    let is = get-walked exact_order c.args.self.now.orders (order_of c.args.key.now) ∙ sym (rw c.order_key.ensures at c.in-Some.ensures.value) in
    line_of_orderer (from_entries c.args.self.now.orders) k c.args.key.now c.args.row.now order c.if-is_none.ensures is
    ∙ is_customer-key c.args.key.now.warehouse c.args.key.now.district order.customer k

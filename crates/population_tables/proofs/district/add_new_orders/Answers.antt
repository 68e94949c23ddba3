use Rattle.std.proofs.Common.{arith, refl, ◌+◌}
use Rattle.tables.specs.declared.keys.OrderKey.{OrderKey}
use Rattle.tables.proofs.Orders.{exact_order}
use Rattle.population_tables.specs.Plain.{delivered_orders}
use Rattle.population_tables.specs.Adds.{is_at}
use Rattle.population_tables.proofs.Added.{is_in_more, right, tied_three, adds_next}
use Rattle.population_tables.proofs.district.add_new_orders.Goals as goal

pub loop-order-preserved : goal.loop-order-preserved
loop-order-preserved c =
    let w = c.args.of.warehouse in
    let d = c.args.of.district in
    let i = c.loop-order.order in
    let from = delivered_orders c.args.scale + 1 in
    let key : OrderKey = record { warehouse = w; district = d; order = i } in
    adds_next exact_order c.loop-order.table c.insert.new.self key _ c.loop-order.invariant refl
    (λ k. right (is_at w d k.warehouse k.district) _ _ _ (is_in_more from i _ k.order (omega arith) (omega arith)))
    (λ q. tied_three q.warehouse q.district q.order w d i) c.in_ok-insert.ensures.updates

pub returns-in_ok-insert : goal.returns-in_ok-insert
returns-in_ok-insert c =
    let w = c.args.of.warehouse in
    let d = c.args.of.district in
    let i = c.loop-order.order in
    let from = delivered_orders c.args.scale + 1 in
    let key : OrderKey = record { warehouse = w; district = d; order = i } in
    adds_next exact_order c.loop-order.table c.insert.new.self key _ c.loop-order.invariant refl
    (λ k. right (is_at w d k.warehouse k.district) _ _ _ (is_in_more from i _ k.order (omega arith) (omega arith)))
    (λ q. tied_three q.warehouse q.district q.order w d i) c.in_ok-insert.ensures.updates

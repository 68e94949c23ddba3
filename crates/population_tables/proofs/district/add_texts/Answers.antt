use Rattle.std.proofs.Common.{arith}
use Rattle.tables.specs.declared.keys.CustomerKey.{CustomerKey}
use Rattle.tables.proofs.Orders.{exact_customer}
use Rattle.population_tables.specs.Adds.{is_at}
use Rattle.population_tables.proofs.Added.{is_in_more, right, tied_three, adds_next}
use Rattle.population_tables.proofs.district.add_texts.Goals as goal

pub loop-customer-preserved : goal.loop-customer-preserved
loop-customer-preserved c =
    let w = c.args.of.warehouse in
    let d = c.args.of.district in
    let i = c.loop-customer.customer in
    let key : CustomerKey = record { warehouse = w; district = d; customer = i } in
    adds_next exact_customer c.loop-customer.table c.insert.new.self key _ c.loop-customer.invariant c.first.ensures
    (λ k. right (is_at w d k.warehouse k.district) _ _ _ (is_in_more 1 i _ k.customer (omega arith) (omega arith)))
    (λ q. tied_three q.warehouse q.district q.customer w d i) c.in_ok-insert.ensures.updates

pub returns-in_ok-insert : goal.returns-in_ok-insert
returns-in_ok-insert c =
    let w = c.args.of.warehouse in
    let d = c.args.of.district in
    let i = c.loop-customer.customer in
    let key : CustomerKey = record { warehouse = w; district = d; customer = i } in
    adds_next exact_customer c.loop-customer.table c.insert.new.self key _ c.loop-customer.invariant c.first.ensures
    (λ k. right (is_at w d k.warehouse k.district) _ _ _ (is_in_more 1 i _ k.customer (omega arith) (omega arith)))
    (λ q. tied_three q.warehouse q.district q.customer w d i) c.in_ok-insert.ensures.updates

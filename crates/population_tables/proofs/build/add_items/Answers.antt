use Rattle.std.proofs.Common.{arith}
use Rattle.tables.proofs.Orders.{exact_number}
use Rattle.population_tables.proofs.Added.{is_in_more, is_eq-nat_cmp, adds_next}
use Rattle.population_tables.proofs.build.add_items.Goals as goal

pub loop-item-preserved : goal.loop-item-preserved
loop-item-preserved g c =
    let i = c.loop-item.item in
    adds_next exact_number c.loop-item.table c.insert.new.self i _ c.loop-item.invariant c.item.ensures
    (λ k. is_in_more 1 i _ k (omega arith) (omega arith)) (λ q. is_eq-nat_cmp q i) c.in_ok-insert.ensures.updates

pub returns-in_ok-insert : goal.returns-in_ok-insert
returns-in_ok-insert g c =
    let i = c.loop-item.item in
    adds_next exact_number c.loop-item.table c.insert.new.self i _ c.loop-item.invariant c.item.ensures
    (λ k. is_in_more 1 i _ k (omega arith) (omega arith)) (λ q. is_eq-nat_cmp q i) c.in_ok-insert.ensures.updates

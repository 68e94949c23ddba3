use Rattle.std.proofs.Common.{arith}
use Rattle.tables.specs.declared.keys.StockKey.{StockKey}
use Rattle.tables.proofs.Orders.{exact_stock}
use Rattle.population_tables.specs.Adds.{is}
use Rattle.population_tables.proofs.Added.{is_in_more, right, tied_two, adds_next}
use Rattle.population_tables.proofs.build.add_stock.Goals as goal

pub loop-item-preserved : goal.loop-item-preserved
loop-item-preserved g c =
    let w = c.args.warehouse in
    let i = c.loop-item.item in
    let key : StockKey = record { warehouse = w; item = i } in
    adds_next exact_stock c.loop-item.table c.insert.new.self key _ c.loop-item.invariant c.stock.ensures
    (λ k. right (is w k.warehouse) _ _ _ (is_in_more 1 i _ k.item (omega arith) (omega arith)))
    (λ q. tied_two q.warehouse q.item w i) c.in_ok-insert.ensures.updates

pub returns-in_ok-insert : goal.returns-in_ok-insert
returns-in_ok-insert g c =
    let w = c.args.warehouse in
    let i = c.loop-item.item in
    let key : StockKey = record { warehouse = w; item = i } in
    adds_next exact_stock c.loop-item.table c.insert.new.self key _ c.loop-item.invariant c.stock.ensures
    (λ k. right (is w k.warehouse) _ _ _ (is_in_more 1 i _ k.item (omega arith) (omega arith)))
    (λ q. tied_two q.warehouse q.item w i) c.in_ok-insert.ensures.updates

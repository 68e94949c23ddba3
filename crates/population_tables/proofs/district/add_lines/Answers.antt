use Rattle.std.proofs.Common.{arith}
use Rattle.tables.specs.Keys.{order_of}
use Rattle.tables.specs.NewOrder.{line_key}
use Rattle.tables.proofs.Orders.{exact_line}
use Rattle.population_tables.specs.Adds.{is_order_at}
use Rattle.population_tables.proofs.Added.{is_in_more, right, tied_four, adds_next}
use Rattle.population_tables.proofs.district.add_lines.Goals as goal

pub loop-line-preserved : goal.loop-line-preserved
loop-line-preserved g c =
    let o = c.args.of in
    let i = c.loop-line.line in
    adds_next exact_line c.loop-line.table c.insert.new.self (line_key o i) _ c.loop-line.invariant c.line.ensures
    (λ k. right (is_order_at o (order_of k)) _ _ _ (is_in_more 1 i _ k.line (omega arith) (omega arith)))
    (λ q. tied_four q.warehouse q.district q.order q.line o.warehouse o.district o.order i) c.in_ok-insert.ensures.updates

pub returns-in_ok-insert : goal.returns-in_ok-insert
returns-in_ok-insert g c =
    let o = c.args.of in
    let i = c.loop-line.line in
    adds_next exact_line c.loop-line.table c.insert.new.self (line_key o i) _ c.loop-line.invariant c.line.ensures
    (λ k. right (is_order_at o (order_of k)) _ _ _ (is_in_more 1 i _ k.line (omega arith) (omega arith)))
    (λ q. tied_four q.warehouse q.district q.order q.line o.warehouse o.district o.order i) c.in_ok-insert.ensures.updates

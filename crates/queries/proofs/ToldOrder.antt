-- What is told of an order, from its row and its lines by their numbers.
use Rattle.std.proofs.Common.{◌≡◌, List, Some, ap, ◌∙◌}
use Rattle.std.specs.Option.{option_map}
use Rattle.std.specs.FinMap.{get}
use Rattle.tables.specs.Database.{Database}
use Rattle.tables.specs.OrderStatus.{told_of}
use Rattle.tables.specs.WellFormed.{IsWellFormed}
use Rattle.tables.specs.declared.keys.OrderKey.{OrderKey}
use Rattle.tables.specs.declared.rows.Order.{Order}
use Rattle.tables.specs.declared.rows.OrderLine.{OrderLine}
use Rattle.queries.specs.Lines.{lines_up_to}
use Rattle.queries.proofs.LinesByNumber.{lines_counted}

pub order_told : (t : Database) (k : OrderKey) (order : Order) (lines : List OrderLine) → IsWellFormed t → get t.orders k ≡ Some order
    → lines_up_to t k order.line_count ≡ lines
    → option_map (told_of t k) (get t.orders k) ≡ Some (record { order = k.order; entry_date = order.entry_date; carrier = order.carrier; lines = lines })
order_told t k order lines wf found is =
    let all = lines_counted t k order wf found ∙ is in
    ap (option_map (told_of t k)) found ∙ (λ i. Some (record { order = k.order; entry_date = order.entry_date; carrier = order.carrier; lines = all i }))

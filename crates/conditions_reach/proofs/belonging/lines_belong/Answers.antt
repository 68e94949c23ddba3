use Rattle.std.proofs.Common.{◌≡◌, true, Option}
use Rattle.tables.specs.Keys.{order_of}
use Rattle.tables.specs.Database.{database}
use Rattle.tables.specs.declared.keys.LineKey.{LineKey}
use Rattle.tables.specs.declared.keys.OrderKey.{OrderKey}
use Rattle.tables.specs.declared.rows.Order.{Order}
use Rattle.tables.specs.declared.rows.OrderLine.{OrderLine}
use Rattle.tables.proofs.Orders.{exact_order}
use Rattle.conditions.proofs.Told.{walked_rows}
use Rattle.conditions_reach.specs.Counted.{is_counted}
use Rattle.conditions_reach.proofs.Counts.{each_along, counted}
use Rattle.conditions_reach.proofs.belonging.lines_belong.Goals as goal

pub returns : goal.returns
returns c =
    let told = each_along (database c.args.tables.now).lines
    (λ (row : OrderKey → Option Order) (k : LineKey) (r : OrderLine). is_counted k.line (row (order_of k)) ≡ true) _ _
    (walked_rows exact_order c.args.tables.now.orders c.new.result c.new.ensures) c.holds_of_each.ensures in
    (λ t k r e. (counted k.line _).0 (told.0 t k r e), λ each. told.1 (λ k r e. (counted k.line _).1 (each k r e)))

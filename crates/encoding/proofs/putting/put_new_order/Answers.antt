use Rattle.std.proofs.lemmas.Option.{same_Some}
use Rattle.tables.specs.Database.{database}
use Rattle.tables.specs.Rows.{new_order_words}
use Rattle.tables.proofs.Orders.{exact_order}
use Rattle.tables.proofs.Views.{insert-view}
use Rattle.encoding.proofs.Given.{is_row}
use Rattle.encoding.proofs.Puts.{puts_new_order}
use Rattle.encoding.proofs.putting.put_new_order.Goals as goal

pub returns : goal.returns
returns c =
    let row = is_row new_order_words (λ r. Unit {0}) c.args.words.now c.requires.words in
    puts_new_order (database c.args.population.now) c.args.words.now (database c.args.tables.now) c.args.key _ _
    (insert-view exact_order c.args.tables.now.new_orders c.insert.new.self c.args.key _ c.in_ok-insert.ensures.updates) c.requires.key
    (same_Some _ _ row.1)

use Rattle.tables.specs.Database.{database}
use Rattle.tables.proofs.Orders.{exact_stock}
use Rattle.tables.proofs.Views.{insert-view}
use Rattle.encoding.proofs.Puts.{puts_stock}
use Rattle.encoding.proofs.putting.put_stock.Goals as goal

pub returns : goal.returns
returns c =
    puts_stock (database c.args.population.now) c.args.words.now (database c.args.tables.now) c.args.key _ _
    (insert-view exact_stock c.args.tables.now.stock c.insert.new.self c.args.key _ c.in_ok-insert.ensures.updates) c.requires.key
    c.row_of-row.ensures.range c.row_of-row.ensures.words

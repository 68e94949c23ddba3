use Rattle.tables.specs.Database.{database}
use Rattle.tables.specs.Rows.{order_words}
use Rattle.rows.specs.Columns.{IsOrderOfScale}
use Rattle.tables.proofs.Orders.{exact_order}
use Rattle.tables.proofs.Views.{insert-view}
use Rattle.encoding.proofs.Given.{is_row}
use Rattle.encoding.proofs.Puts.{puts_order}
use Rattle.encoding.proofs.putting.put_order.Goals as goal

pub row_of-row-requires : goal.row_of-row-requires
row_of-row-requires c = is_row order_words (IsOrderOfScale (database c.args.population.now).scale) c.args.words.now c.requires.words

pub returns : goal.returns
returns c =
    puts_order (database c.args.population.now) c.args.words.now (database c.args.tables.now) c.args.key _ _
    (insert-view exact_order c.args.tables.now.orders c.insert.new.self c.args.key _ c.in_ok-insert.ensures.updates) c.requires.key
    c.row_of-row.ensures.range c.row_of-row.ensures.words

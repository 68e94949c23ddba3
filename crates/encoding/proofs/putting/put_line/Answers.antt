use Rattle.tables.specs.Database.{database}
use Rattle.tables.specs.Rows.{line_words}
use Rattle.tables.specs.WellFormed.{IsLineRow}
use Rattle.tables.proofs.Orders.{exact_line}
use Rattle.tables.proofs.Views.{insert-view}
use Rattle.encoding.proofs.Given.{is_row}
use Rattle.encoding.proofs.Puts.{puts_line}
use Rattle.encoding.proofs.putting.put_line.Goals as goal

pub row_of-row-requires : goal.row_of-row-requires
row_of-row-requires c = is_row line_words (IsLineRow (database c.args.population.now).scale) c.args.words.now c.requires.words

pub returns : goal.returns
returns c =
    puts_line (database c.args.population.now) c.args.words.now (database c.args.tables.now) c.args.key _ _
    (insert-view exact_line c.args.tables.now.lines c.insert.new.self c.args.key _ c.in_ok-insert.ensures.updates) c.requires.key
    c.row_of-row.ensures.range c.row_of-row.ensures.words

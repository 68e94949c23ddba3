use Rattle.std.proofs.Common.{ap}
use Rattle.std.specs.Option.{option_map}
use Rattle.tables.specs.Database.{database}
use Rattle.tables.proofs.Orders.{exact_number}
use Rattle.tables.proofs.Views.{insert-view}
use Rattle.rows.specs.Columns.{warehouse_columns}
use Rattle.encoding.proofs.Given.{is_there, row_there}
use Rattle.encoding.proofs.Puts.{puts_warehouse}
use Rattle.encoding.proofs.putting.put_warehouse.Goals as goal

pub unwrap-first-requires : goal.unwrap-first-requires
unwrap-first-requires c = is_there exact_number c.args.population.now.warehouses c.args.key c.get.result c.get.ensures.value
    ((c.requires.population.warehouses c.args.key).1 c.requires.key)

pub row_of-columns-requires : goal.row_of-columns-requires
row_of-columns-requires c = (warehouse_columns c.requires.words.0, c.requires.words.1, c.requires.words.2)

pub returns : goal.returns
returns c =
    let found = row_there exact_number c.args.population.now.warehouses c.args.key c.get.result c.unwrap-first.result c.get.ensures.value c.unwrap-first.ensures in
    puts_warehouse (database c.args.population.now) c.args.words.now (database c.args.tables.now) c.args.key _ _
    (insert-view exact_number c.args.tables.now.warehouses c.insert.new.self c.args.key _ c.in_ok-insert.ensures.updates) c.requires.key
    (record { range = c.row_of-columns.ensures.range; tax = ap (option_map (λ r. r.tax)) found }) c.row_of-columns.ensures.words

use Rattle.std.proofs.Common.{ap}
use Rattle.std.specs.Option.{option_map}
use Rattle.tables.specs.Database.{database}
use Rattle.tables.proofs.Orders.{exact_district}
use Rattle.tables.proofs.Views.{insert-view}
use Rattle.rows.specs.Columns.{district_columns}
use Rattle.rows.specs.Laws.{district_range}
use Rattle.encoding.proofs.Given.{is_there, row_there}
use Rattle.encoding.proofs.Puts.{puts_district}
use Rattle.encoding.proofs.putting.put_district.Goals as goal

pub unwrap-first-requires : goal.unwrap-first-requires
unwrap-first-requires c = is_there exact_district c.args.population.now.districts c.args.key c.get.result c.get.ensures.value
    ((c.requires.population.districts c.args.key).1 c.requires.key)

pub row_of-columns-requires : goal.row_of-columns-requires
row_of-columns-requires c =
    let row = c.requires.words in
    (district_columns row.0, row.1, district_range (database c.args.population.now).scale row.0 row.2)

pub returns : goal.returns
returns c =
    let range = c.row_of-columns.ensures.range in
    let found = row_there exact_district c.args.population.now.districts c.args.key c.get.result c.unwrap-first.result c.get.ensures.value c.unwrap-first.ensures in
    puts_district (database c.args.population.now) c.args.words.now (database c.args.tables.now) c.args.key _ _
    (insert-view exact_district c.args.tables.now.districts c.insert.new.self c.args.key _ c.in_ok-insert.ensures.updates) c.requires.key
    (record { range = record { year_to_date = range.year_to_date; next_order = range.next_order }; tax = ap (option_map (λ r. r.tax)) found }) c.row_of-columns.ensures.words

use Rattle.std.proofs.Common.{ap}
use Rattle.std.specs.Option.{option_map}
use Rattle.tables.specs.Database.{database}
use Rattle.tables.proofs.Orders.{exact_customer}
use Rattle.tables.proofs.Views.{insert-view}
use Rattle.rows.specs.Columns.{customer_columns}
use Rattle.rows.specs.Laws.{customer_range}
use Rattle.encoding.proofs.Given.{is_there, row_there}
use Rattle.encoding.proofs.Puts.{puts_customer}
use Rattle.encoding.proofs.putting.put_customer.Goals as goal

pub unwrap-first-requires : goal.unwrap-first-requires
unwrap-first-requires c = is_there exact_customer c.args.population.now.customers c.args.key c.get.result c.get.ensures.value
    ((c.requires.population.customers c.args.key).1 c.requires.key)

pub row_of-columns-requires : goal.row_of-columns-requires
row_of-columns-requires c =
    let row = c.requires.words in
    (customer_columns row.0, row.1, customer_range row.0 row.2)

pub returns : goal.returns
returns c =
    let range = c.row_of-columns.ensures.range in
    let found = row_there exact_customer c.args.population.now.customers c.args.key c.get.result c.unwrap-first.result c.get.ensures.value c.unwrap-first.ensures in
    puts_customer (database c.args.population.now) c.args.words.now (database c.args.tables.now) c.args.key _ _
    (insert-view exact_customer c.args.tables.now.customers c.insert.new.self c.args.key _ c.in_ok-insert.ensures.updates) c.requires.key
    (record {
      range = record { balance = range.balance; paid = range.paid; payments = range.payments; deliveries = range.deliveries };
      first_name = ap (option_map (λ r. r.first_name)) found;
      last_name = ap (option_map (λ r. r.last_name)) found;
      credit = ap (option_map (λ r. r.credit)) found;
      discount = ap (option_map (λ r. r.discount)) found;
    }) c.row_of-columns.ensures.words

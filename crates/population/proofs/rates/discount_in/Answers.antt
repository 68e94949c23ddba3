use Rattle.std.proofs.Common.{refl}
use Rattle.tables.specs.Database.{database}
use Rattle.tables.specs.declared.rows.Customer.{Customer}
use Rattle.tables.proofs.Orders.{exact_customer}
use Rattle.population.proofs.Columns.{column_some, column_none}
use Rattle.population.proofs.rates.discount_in.Goals as goal

pub returns-in-Some : goal.returns-in-Some
returns-in-Some c =
    column_some exact_customer (λ (r : Customer). r.discount) 0 c.args.tables.now.customers (database c.args.tables.now).customers refl c.args.key c.in-Some.row.now
    c.in-Some.ensures.value

pub returns-in-None : goal.returns-in-None
returns-in-None c =
    column_none exact_customer (λ (r : Customer). r.discount) 0 c.args.tables.now.customers (database c.args.tables.now).customers refl c.args.key c.no_rate.result
    c.no_rate.ensures c.in-None.ensures.value

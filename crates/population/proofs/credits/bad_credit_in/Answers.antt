use Rattle.std.proofs.Common.{false, refl, ◌∙◌}
use Rattle.tables.specs.Payment.{is_bad}
use Rattle.tables.specs.Database.{database}
use Rattle.tables.specs.declared.rows.Customer.{Customer}
use Rattle.tables.proofs.Orders.{exact_customer}
use Rattle.population.proofs.Columns.{column_some, column_none}
use Rattle.population.proofs.credits.bad_credit_in.Goals as goal

pub returns-in-Some : goal.returns-in-Some
returns-in-Some c = c.is_bad.ensures ∙
    column_some exact_customer (λ (r : Customer). is_bad r.credit) false c.args.tables.now.customers (database c.args.tables.now).customers refl c.args.key
    c.in-Some.row.now c.in-Some.ensures.value

pub returns-in-None : goal.returns-in-None
returns-in-None c =
    column_none exact_customer (λ (r : Customer). is_bad r.credit) false c.args.tables.now.customers (database c.args.tables.now).customers refl c.args.key
    false refl c.in-None.ensures.value

use Rattle.std.proofs.Common.{sym, ap, ◌∙◌, subst}
use Rattle.tables.specs.Sizes.{IsNumber}
use Rattle.tables.specs.Customer.{customer_number}
use Rattle.tables.specs.declared.keys.DistrictKey.{DistrictKey}
use Rattle.population.specs.Initial.{initial}
use Rattle.tables_laws.proofs.NamesKept.{is_number_of}
use Rattle.payment.proofs.transaction.payer.Goals as goal

pub returns-clause-customer : goal.returns-clause-customer
returns-clause-customer c =
    let t0 = initial c.args.population.now in
    let x = c.args.payment.now in
    subst (IsNumber t0.scale.customers) (sym (c.customer.ensures ∙ ap (λ (k : DistrictKey). customer_number t0 k x.who) c.customer_home.ensures))
    (is_number_of t0 (record { warehouse = x.customer_warehouse; district = x.customer_district }) x.who c.args.population.now.well_formed
    (c.requires.customer_warehouse, c.requires.customer_district) c.requires.who)

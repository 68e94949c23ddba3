use Rattle.std.proofs.Common.{sym, ap, ◌∙◌, subst}
use Rattle.tables.specs.Sizes.{IsNumber}
use Rattle.tables.specs.Keys.{IsCustomerKey, customer_key}
use Rattle.tables.specs.Customer.{customer_number}
use Rattle.tables.specs.declared.keys.CustomerKey.{CustomerKey}
use Rattle.tables.specs.declared.keys.DistrictKey.{DistrictKey}
use Rattle.population.specs.Initial.{initial}
use Rattle.tables_laws.proofs.NamesKept.{is_number_of}
use Rattle.queries.proofs.status.asked_for.Goals as goal

pub returns-clause-key : goal.returns-clause-key
returns-clause-key c =
    let t0 = initial c.args.population.now in
    let x = c.args.query.now in
    let number = c.customer.ensures ∙ ap (λ (k : DistrictKey). customer_number t0 k x.who) c.home-home.ensures in
    let key = c.customer_key.ensures ∙ ap (λ (k : DistrictKey). customer_key k c.customer.result) c.home-home.ensures in
    subst (λ (k : CustomerKey). IsCustomerKey t0.scale k) (sym key) (
      c.requires.warehouse,
      c.requires.district,
      subst (IsNumber t0.scale.customers) (sym number)
          (is_number_of t0 (record { warehouse = x.warehouse; district = x.district }) x.who c.args.population.now.well_formed
          (c.requires.warehouse, c.requires.district) c.requires.who),
    )

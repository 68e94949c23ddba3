use Rattle.std.proofs.Common.{refl}
use Rattle.tables.proofs.Orders.{exact_district}
use Rattle.population_tables.proofs.Added.{tied_two, adds_one}
use Rattle.population_tables.proofs.district.add_district.Goals as goal

pub returns-clause-district : goal.returns-clause-district
returns-clause-district g c = record {
  scale = refl;
  keeps_texts = refl;
  districts = adds_one exact_district c.args.tables.now.districts c.insert.new.self c.args.key _ c.district.ensures
      (λ q. tied_two q.warehouse q.district c.args.key.warehouse c.args.key.district) c.in_ok-insert.ensures.updates;
  customers = c.in_ok-add_customers.ensures;
  texts = c.in_ok-add_texts.ensures;
  history = c.in_ok-add_payments.ensures;
  new_orders = c.in_ok-add_new_orders.ensures;
  orders = c.in_ok-add_arranged_orders.ensures;
}

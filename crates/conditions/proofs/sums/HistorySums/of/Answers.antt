use Rattle.conditions.proofs.sums.HistorySums.of.Goals as goal

pub returns : goal.returns
returns c = record {
  warehouses = c.in_ok-warehouses.ensures.sums;
  districts = c.in_ok-districts.ensures.sums;
  customers = c.in_ok-customers.ensures.sums;
  customers_bound = c.in_ok-customers.ensures.bound;
}

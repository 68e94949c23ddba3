use Rattle.tables.proofs.Numbers.{one_to_one, places}
use Rattle.tables.proofs.records.records_have_one_number_each.Goals as goal

pub returns-clause-keys : goal.returns-clause-keys
returns-clause-keys c = one_to_one c.args.scale.now

pub returns-clause-places : goal.returns-clause-places
returns-clause-places c = places c.args.scale.now

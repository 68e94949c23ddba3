use Rattle.population_tables.proofs.OneTable.{one_plain}
use Rattle.population_tables.proofs.plain_tables_are_one.Goals as goal

pub returns : goal.returns
returns c s t u = one_plain s t u

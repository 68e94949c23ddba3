use Rattle.encoding.proofs.Held.{one_database}
use Rattle.encoding.proofs.records_determine_tables.Goals as goal

pub returns : goal.returns
returns c = one_database

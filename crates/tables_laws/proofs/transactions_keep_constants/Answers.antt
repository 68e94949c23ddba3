use Rattle.tables_laws.proofs.Kept.{after-IsOf}
use Rattle.tables_laws.proofs.transactions_keep_constants.Goals as goal

pub returns : goal.returns
returns c = after-IsOf

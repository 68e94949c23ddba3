use Rattle.tables_laws.proofs.Kept.{after-IsConsistent}
use Rattle.tables_laws.proofs.transactions_keep_tables_consistent.Goals as goal

pub returns : goal.returns
returns c = after-IsConsistent

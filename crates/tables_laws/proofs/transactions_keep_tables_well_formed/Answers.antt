use Rattle.tables_laws.proofs.Kept.{after-IsWellFormed, after-HasRoom}
use Rattle.tables_laws.proofs.transactions_keep_tables_well_formed.Goals as goal

pub returns : goal.returns
returns c = λ t x n ok number wf con room. (after-IsWellFormed t x n ok number wf con room, after-HasRoom t x n ok wf room)

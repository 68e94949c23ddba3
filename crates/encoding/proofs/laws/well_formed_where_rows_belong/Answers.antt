use Rattle.encoding.proofs.Belong.{well_formed_where_rows_belong}
use Rattle.encoding.proofs.laws.well_formed_where_rows_belong.Goals as goal

pub returns : goal.returns
returns c = λ t0 t values wf may a history. well_formed_where_rows_belong t0 t values wf may a history

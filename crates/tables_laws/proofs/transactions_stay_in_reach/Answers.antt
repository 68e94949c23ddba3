use Rattle.tables_laws.proofs.Reaching.{after-IsInReach}
use Rattle.tables_laws.proofs.transactions_stay_in_reach.Goals as goal

pub returns : goal.returns
returns c = λ t x n few ok wf h. after-IsInReach t x n few ok wf h

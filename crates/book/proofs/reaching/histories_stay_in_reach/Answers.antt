use Rattle.book.proofs.Reached.{replay-AreReached}
use Rattle.book.proofs.reaching.histories_stay_in_reach.Goals as goal

pub returns : goal.returns
returns c past t0 history = replay-AreReached past t0 history

use Rattle.totals.proofs.Follow.{sums_follow_commit}
use Rattle.totals.proofs.follows.sums_follow_commits.Goals as goal

pub returns : goal.returns
returns c = λ t x writes reply held v next scale ok wf con wf_after commit are latest was follow.
    sums_follow_commit t x writes reply held scale ok wf con wf_after commit are latest v next was follow

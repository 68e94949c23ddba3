use Rattle.std.proofs.Common.{◌≡◌, ◌+◌, sum_by, vec_len}
use Rattle.book.specs.Share.{parts_of, share_commits}
use Rattle.book.proofs.closed.joined.Given as goal

-- what is joined and what is left have all together
abbrev pub invariant-loop-share : goal.invariant-loop-share
invariant-loop-share g l =
    (l.whole.parts + sum_by parts_of l.shares.items ≡ sum_by parts_of l.fn.shares.items)
    × (l.whole.commits + sum_by share_commits l.shares.items ≡ sum_by share_commits l.fn.shares.items)

abbrev pub decreases-loop-share : goal.decreases-loop-share
decreases-loop-share g l = vec_len l.shares

use Rattle.std.proofs.Common.{arith}
use Rattle.std.proofs.lemmas.Int.{ints}
use Rattle.conditions_walks.proofs.Added.{within_weaker}
use Rattle.conditions_walks.proofs.running.Running.close.Goals as goal

pub put-requires : goal.put-requires
put-requires g c = within_weaker g.G.Ord.cmp c.args.self _ _ (omega arith) c.requires

pub returns-clause-bound : goal.returns-clause-bound
returns-clause-bound g c =
    (λ k. omega (arith, ints, c.in_ok-put.ensures.sums k, c.requires.low k), λ k. omega (arith, ints, c.in_ok-put.ensures.sums k, c.requires.high k))

use Rattle.std.proofs.Common.{◌≡◌}
use Rattle.bench_run.proofs.single.commit_deck.Given as goal

-- the deck's inputs are of the tables' scale
abbrev pub invariant-loop : goal.invariant-loop
invariant-loop g l = l.deck.scale ≡ g.K.Run.run.first.scale

use Rattle.std.proofs.Common.{◌≡◌, All, length}
use Rattle.tests_run.proofs.overtaking_tests.stations.Given as goal

-- each terminal so far has a station, with a deck of this scale
abbrev pub invariant-loop-terminal : goal.invariant-loop-terminal
invariant-loop-terminal l =
    (length l.stations.items ≡ l.terminal)
    × All (λ station. station.deck.scale ≡ l.fn.scale) l.stations.items

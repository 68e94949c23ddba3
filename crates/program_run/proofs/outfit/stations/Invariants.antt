use Rattle.std.proofs.Common.{◌≡◌, ◌+◌, All, length}
use Rattle.program_run.proofs.outfit.stations.Given as goal

-- each terminal so far has a station, with a deck of this scale, and each other one's gate is left
abbrev pub invariant-loop-terminal : goal.invariant-loop-terminal
invariant-loop-terminal g l =
    (length l.stations.items ≡ l.terminal)
    × (length l.gates.items + l.terminal ≡ l.terminals)
    × All (λ station. station.deck.scale ≡ l.fn.scale) l.stations.items

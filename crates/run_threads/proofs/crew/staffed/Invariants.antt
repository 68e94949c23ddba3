use Rattle.std.proofs.Common.{◌≡◌, ◌+◌, ◌++◌, All, length, map, reverse, vec_len}
use Rattle.run_threads.specs.Tally.{inputs_in}
use Rattle.run_threads.proofs.crew.staffed.Given as goal

-- there is a seat for each station that is left, and each terminal that has one is idle, with its station's deck
abbrev pub invariant-loop-station : goal.invariant-loop-station
invariant-loop-station g l =
    All (λ station. station.deck.scale ≡ g.K.Run.run.first.scale) l.stations.items
    × (l.seats.left ≡ length l.stations.items)
    × (length l.workers.items + length l.stations.items ≡ g.K.Ledger.parts)
    × All (λ worker. inputs_in worker.tally ≡ 0) l.workers.items
    × (map (λ worker. worker.terminal.deck) l.workers.items ++ map (λ station. station.deck) (reverse l.stations.items)
    ≡ map (λ station. station.deck) l.fn.stations.items)

abbrev pub decreases-loop-station : goal.decreases-loop-station
decreases-loop-station g l = vec_len l.stations

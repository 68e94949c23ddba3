use Rattle.std.proofs.Common.{◌≡◌, map}
use Rattle.std.specs.List.{range_with_len}
use Rattle.tables.specs.Database.{database}
use Rattle.population.specs.Prices.{price_of}
use Rattle.population.proofs.prices.prices.Given as goal

-- so many items have their prices
abbrev pub invariant-loop-done : goal.invariant-loop-done
invariant-loop-done l = record { listed : l.prices.items ≡ map (price_of (database l.tables)) (range_with_len 1 l.done) }

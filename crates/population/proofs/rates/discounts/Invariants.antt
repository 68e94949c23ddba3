use Rattle.std.proofs.Common.{◌≡◌, map}
use Rattle.std.specs.List.{range_with_len}
use Rattle.tables.specs.Database.{database}
use Rattle.tables.specs.NewOrder.{discount}
use Rattle.tables.specs.Records.{customer_at}
use Rattle.population.proofs.rates.discounts.Given as goal

-- so many places have their rates
abbrev pub invariant-loop-place : goal.invariant-loop-place
invariant-loop-place l = record {
  listed : l.rates.items ≡ map (λ p. discount (database l.tables) (customer_at (database l.tables).scale p)) (range_with_len 0 l.place);
}

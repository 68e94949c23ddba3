use Rattle.std.proofs.Common.{◌≡◌, map}
use Rattle.std.specs.List.{range_with_len}
use Rattle.tables.specs.Database.{database}
use Rattle.tables.specs.Payment.{has_bad_credit}
use Rattle.tables.specs.Records.{customer_at}
use Rattle.population.proofs.credits.bad_credits.Given as goal

-- so many places are told of
abbrev pub invariant-loop-place : goal.invariant-loop-place
invariant-loop-place l = record {
  listed : l.credits.items ≡ map (λ p. has_bad_credit (database l.tables) (customer_at (database l.tables).scale p)) (range_with_len 0 l.place);
}

-- Entries of narrow records, and behind them those of wide ones.
use Rattle.std.specs.Prelude.{ℕ, List, ◌++◌}
use Rattle.std.specs.Ordering.{nat_cmp}
use Rattle.std.specs.Map.{keys_of}
use Rattle.std.specs.List.{All}
use Rattle.std.specs.List.Sorted.{IsStrictlySortedBy}

-- both stand in the order of their numbers, and the first ones are narrow, the others wide
pub record AreBeside {X : Type 0} (IsLow IsHigh : X → Type 0) (narrow wide : List (ℕ × X)) : Type 0 where
  pub ordered : IsStrictlySortedBy nat_cmp (keys_of (narrow ++ wide))
  pub low : All (λ e. IsLow e.1) narrow
  pub high : All (λ e. IsHigh e.1) wide

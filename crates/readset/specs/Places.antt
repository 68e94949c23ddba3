-- The places of record numbers among entries that stand in the order of their numbers.
use Rattle.std.specs.Prelude.{ℕ, suc, List, [], ◌∷◌, Result, Ok, Err}
use Rattle.std.specs.Ordering.{nat_cmp, match_ordering}

-- one place further
abbrev pub one_further : Result ℕ ℕ → Result ℕ ℕ
one_further (Ok i) = Ok (suc i)
one_further (Err i) = Err (suc i)

-- the place of the entry of this number, or else the place where it would go
abbrev pub place : {X : Type 0} → List (ℕ × X) → ℕ → Result ℕ ℕ
place [] n = Err 0
place (e ∷ es) n = match_ordering (nat_cmp n e.0) (Err 0) (Ok 0) (one_further (place es n))

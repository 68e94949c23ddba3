-- What a draw may give.
use Rattle.std.specs.Prelude.{ℕ, ◌+◌, ◌-◌, ◌%◌, ◌≤◌, bit_or}

-- from low to high
abbrev pub IsDrawnFrom : ℕ → ℕ → ℕ → Type 0
IsDrawnFrom low high n = (low ≤ n) × (n ≤ high)

-- NURand(A, x, y) of the draws a, from 0 to A, and b, from x to y, with the constant c (TPC-C 2.1.6)
abbrev pub skewed : ℕ → ℕ → ℕ → ℕ → ℕ → ℕ
skewed a b x y c = (bit_or a b + c) % (y - x + 1) + x

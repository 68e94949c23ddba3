-- What contracts see of the seats that are left.
use Rattle.std.specs.Prelude.{ℕ}

-- how many are left, and how many were given
pub record SeatsView : Type 0 where
  pub left : ℕ
  pub given : ℕ

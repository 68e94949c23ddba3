-- Tables that are being built, a record at a time. No public clause cites them.
use Rattle.std.specs.Prelude.{ℕ, nat_lt, cond, Option, None, List}

-- the values of the records below a number
abbrev pub below : ℕ → (ℕ → Option (List ℕ)) → ℕ → Option (List ℕ)
below end values n = cond (nat_lt n end) (values n) None

-- Which lines an order counts, as a test. No public clause cites it.
use Rattle.std.specs.Prelude.{ℕ, Bool, false, Option}
use Rattle.std.specs.Option.{option_map_or}
use Rattle.std.specs.Prelude.{nat_le}
use Rattle.tables.specs.declared.rows.Order.{Order}

-- there is an order, of so many lines at least
abbrev pub is_counted : ℕ → Option Order → Bool
is_counted n row = option_map_or (λ order. nat_le n order.line_count) row false

-- What walks go along. No public clause cites it.
use Rattle.std.specs.Prelude.{◌≡◌}
use Rattle.tables.specs.declared.Tables.{Tables}
use Rattle.conditions.specs.declared.sums.Sums.{Sums}
use Rattle.conditions.specs.declared.customer_walks.CustomerWalks.{CustomerWalks}

-- each goes along the table or the sums of its name
pub record AreWalksOf (t : Tables) (s : Sums) (w : CustomerWalks) : Type 0 where
  pub customers : w.customers ≡ t.customers.entries
  pub history : w.history ≡ s.history.customers.entries
  pub delivered : w.delivered ≡ s.lines.delivered.entries

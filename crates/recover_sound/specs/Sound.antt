-- Whether a run may go on from recovered tables.
use Rattle.std.specs.Prelude.{ℕ, List, length, drop}
use Rattle.tables.specs.Conditions.{IsConsistent}
use Rattle.tables.specs.Database.{Database}
use Rattle.tables.specs.Reach.{BelongToOrders, IsInReach}
use Rattle.tables.specs.declared.rows.History.{History}

-- tables that so many commits may have left of a first population, as far as this goes: rows belong to orders, no
-- column is further from zero than as many commits can have taken it, and the consistency conditions hold (TPC-C 3.3.2)
pub record AreSoundTables (commits : ℕ) (t : Database) : Type 0 where
  pub belong : BelongToOrders t
  pub reach : IsInReach commits t
  pub consistent : IsConsistent t

-- the rows of HISTORY that tables have behind as many as these have
abbrev pub rows_behind_those_of : Database → Database → List History
rows_behind_those_of t0 t = drop (length t0.history) t.history

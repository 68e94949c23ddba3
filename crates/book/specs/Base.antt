-- The tables that a run begins with, and the population that they come of.
use Rattle.std.specs.Prelude.{◌≡◌, ℕ, ◌-◌, ◌≤◌, ◌++◌, List}
use Rattle.tables.specs.Database.{Database}
use Rattle.tables.specs.Constant.{IsOf}
use Rattle.tables.specs.Conditions.{IsConsistent}
use Rattle.tables.specs.Reach.{IsInReach}
use Rattle.tables.specs.WellFormed.{IsWellFormed, HasRoom}
use Rattle.tables.specs.declared.limits.TheConstants.{MAX_COMMITS}
use Rattle.tables.specs.declared.rows.History.{History}
use Rattle.totals.specs.Totals.{TotalsView, AreTotals}

-- tables that a population may have become, with these rows behind its own in HISTORY
pub record HasBecome (population first : Database) (rows : List History) : Type 0 where
  pub of_population : IsOf population first
  pub history : first.history ≡ population.history ++ rows

-- a run may begin with these tables, which so many past commits have made of the population's: they are well-formed and
-- consistent, and there is room for the commits that are left
pub record MayBegin (population first : Database) (rows : List History) (past : ℕ) : Type 0 where
  pub become : HasBecome population first rows
  pub well_formed : IsWellFormed first
  pub consistent : IsConsistent first
  pub room : HasRoom (MAX_COMMITS - past) first
  pub cap : past ≤ first.scale.commits

-- it may, and these are their totals
pub record IsStart (population first : Database) (rows : List History) (past : ℕ) (sums : TotalsView) : Type 0 where
  pub tables : MayBegin population first rows past
  pub totals : AreTotals first sums

-- well-formed and consistent tables in reach of so many commits, and so with room for the rest of the largest cap
pub record AreReached (commits : ℕ) (t : Database) : Type 0 where
  pub well_formed : IsWellFormed t
  pub consistent : IsConsistent t
  pub reach : IsInReach commits t

-- What records and running totals tell of tables.
use Rattle.std.specs.Prelude.{◌≡◌}
use Rattle.tables.specs.WellFormed.{IsWellFormed}
use Rattle.tables.specs.Database.{Database}
use Rattle.totals_bounds.specs.Bounds.{BoundsView, AreBounds}
use Rattle.totals.specs.Totals.{SumsView, AreSums}

-- these are the totals of well-formed tables
pub record HasTotals (v : SumsView) (b : BoundsView) (t : Database) : Type 0 where
  pub sums_scale : v.scale ≡ t.scale
  pub bounds_scale : b.scale ≡ t.scale
  pub sums : AreSums t.scale t v
  pub bounds : AreBounds t.scale t b
  pub well_formed : IsWellFormed t

-- The cells of a scale's records.
use Rattle.std.specs.Prelude.{◌≡◌, length}
use Rattle.tables.specs.Sizes.{Sizes}
use Rattle.tables.specs.Records.{narrow_count, size}
use Rattle.tables.specs.declared.records.Table.TheVariants as table
use Rattle.cells.specs.Records.{CellsView}

-- there is one for each record: a narrow one, or a wide one for C_DATA
pub record AreCellsOf (s : Sizes) (cells : CellsView) : Type 0 where
  pub narrow : length cells.narrow ≡ narrow_count s
  pub wide : length cells.wide ≡ size s table.CustomerData

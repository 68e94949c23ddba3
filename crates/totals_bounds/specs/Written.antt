-- Tables, by what their records hold, and that differ by what was written.
use Rattle.std.specs.Prelude.{◌≡◌, ℕ, ◌<◌, Option, List}
use Rattle.tables.specs.Keys.{IsOrderKey}
use Rattle.tables.specs.Maps.{RowsWithin}
use Rattle.tables.specs.Records.{narrow_count}
use Rattle.tables.specs.Rows.{rows}
use Rattle.tables.specs.Database.{Database}
use Rattle.readset.specs.Writes.{WriteSetView, rows_with}

-- the rows of ORDER and of NEW-ORDER stand at keys of the scale
pub record HasOrdersWithin (t : Database) : Type 0 where
  pub orders : RowsWithin (IsOrderKey t.scale) t.orders
  pub new_orders : RowsWithin (IsOrderKey t.scale) t.new_orders

-- these are what the records of tables hold
abbrev pub AreRowsOf : Database → (ℕ → Option (List ℕ)) → Type 0
AreRowsOf t held = (n : ℕ) → n < narrow_count t.scale → held n ≡ rows t n

-- the tables u are of the scale of t, and have its rows but for these values
pub record IsWith (t u : Database) (writes : WriteSetView) : Type 0 where
  pub scale : u.scale ≡ t.scale
  pub rows : (n : ℕ) → n < narrow_count t.scale → rows u n ≡ rows_with writes (rows t) n

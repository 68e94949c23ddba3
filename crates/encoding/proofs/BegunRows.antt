-- All rows have begun their records.
use Rattle.std.proofs.Common.{◌≡◌, ap, List, None}
use Rattle.std.specs.Prelude.{is_some}
use Rattle.std.specs.FinMap.{FinMap}
use Rattle.std.specs.declared.cmp.Ordering.{Ordering}
use Rattle.tables.specs.Maps.{RowsAt, RowsWithin, EachRow}
use Rattle.tables.specs.Database.{Database}
use Rattle.tables.specs.Records.{IsNarrowKey, number_of_key}
use Rattle.tables.specs.Rows.{row_at}
use Rattle.tables.specs.declared.records.Table.TheVariants as table
use Rattle.tables.specs.declared.records.RecordKey.{RecordKey}
use Rattle.tables.specs.declared.records.RecordKey.TheVariants as key
use Rattle.cells.specs.First.{first_version}
use Rattle.cells.specs.declared.cells.Newest.{Newest}
use Rattle.encoding.specs.Newest.{words_at}
use Rattle.encoding.specs.Begun.{AreBegun, rows_alone}
use Rattle.encoding.proofs.BegunTables.{with_table}

-- keys of rows
module _ {K X : Type 0} {R : K → K → Ordering} (IsKey : K → Type 0) (m : FinMap R X) where
  pub keys_at : RowsAt IsKey m → EachRow (λ k r. IsKey k) m
  keys_at rows k r found = (rows k).0 (ap is_some found)

  pub keys_within : RowsWithin IsKey m → EachRow (λ k r. IsKey k) m
  keys_within rows k r found = rows k (ap is_some found)

-- each table in its turn
pub all_rows : (t : Database) (newest : List Newest)
    → AreBegun t.scale (with_table table.Stock (row_at t)
    (with_table table.OrderLine (row_at t)
    (with_table table.Order (row_at t)
    (with_table table.NewOrder (row_at t)
    (with_table table.Customer (row_at t) (with_table table.District (row_at t) (with_table table.Warehouse (row_at t) (λ k. None)))))))) newest
    → AreBegun t.scale (rows_alone t) newest
all_rows t newest a = record { count = a.count; words = words }
  where
    words : (k : RecordKey) → IsNarrowKey t.scale k → words_at newest (number_of_key t.scale k) ≡ first_version (rows_alone t k)
    words (key.Warehouse k) h = a.words (key.Warehouse k) h
    words (key.District k) h = a.words (key.District k) h
    words (key.Customer k) h = a.words (key.Customer k) h
    words (key.NewOrder k) h = a.words (key.NewOrder k) h
    words (key.Order k) h = a.words (key.Order k) h
    words (key.OrderLine k) h = a.words (key.OrderLine k) h
    words (key.Stock k) h = a.words (key.Stock k) h
    words (key.Oldest k) h = a.words (key.Oldest k) h
    words (key.Last k) h = a.words (key.Last k) h
    words (key.CustomerData k) h = absurd h

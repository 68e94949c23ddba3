-- Which values records may hold, and what it is to put one value into tables.
use Rattle.std.specs.Prelude.{◌≡◌, ◌≢◌, Option, Some, List, ℕ}
use Rattle.std.specs.Option.{ForSome, option_map}
use Rattle.customer_data.specs.Text.{IsData}
use Rattle.customer_data.specs.Words.{data_words}
use Rattle.tables.specs.Sizes.{Sizes}
use Rattle.tables.specs.WellFormed.{IsMoney, IsDistrictRow, IsCustomerRow, IsLineRow, IsStockRow}
use Rattle.tables.specs.Database.{Database}
use Rattle.tables.specs.Records.{IsRecordKey}
use Rattle.tables.specs.Rows.{warehouse_words, district_words, customer_words, new_order_words, order_words, line_words}
use Rattle.tables.specs.Rows.{stock_words}
use Rattle.tables.specs.declared.records.RecordKey.{RecordKey}
use Rattle.tables.specs.declared.records.RecordKey.TheVariants as key
use Rattle.rows.specs.Columns.{IsOrderOfScale}
use Rattle.encoding.specs.Held.{AreTables}

-- the words of a row, within its ranges
abbrev pub IsRow : {X : Type 0} → (X → List ℕ) → (X → Type 0) → Option (List ℕ) → Type 0
IsRow {X} words IsIn value = (r : X) × (value ≡ Some (words r)) × IsIn r

-- or nothing
abbrev pub MayBeRow : {X : Type 0} → (X → List ℕ) → (X → Type 0) → Option (List ℕ) → Type 0
MayBeRow {X} words IsIn value = (row : Option X) × (value ≡ option_map words row) × ForSome row IsIn

-- what the record of a key may hold: a row of WAREHOUSE, DISTRICT, CUSTOMER and STOCK is always there, and so is a
-- customer's C_DATA. Nothing is said of the index records
abbrev pub MayHold : Sizes → RecordKey → Option (List ℕ) → Type 0
MayHold s (key.Warehouse k) = IsRow warehouse_words (λ r. IsMoney r.year_to_date)
MayHold s (key.District k) = IsRow district_words (IsDistrictRow s)
MayHold s (key.Customer k) = IsRow customer_words IsCustomerRow
MayHold s (key.NewOrder k) = MayBeRow new_order_words (λ r. Unit {0})
MayHold s (key.Order k) = MayBeRow order_words (IsOrderOfScale s)
MayHold s (key.OrderLine k) = MayBeRow line_words (IsLineRow s)
MayHold s (key.Stock k) = IsRow stock_words IsStockRow
MayHold s (key.Oldest k) = λ value. Unit {0}
MayHold s (key.Last k) = λ value. Unit {0}
MayHold s (key.CustomerData k) = IsRow data_words IsData

-- the record of this key now holds this value, and every other one what it held: tables of some values are then tables
-- of the values with this one
pub record Puts (t0 : Database) (key : RecordKey) (value : Option (List ℕ)) (old new : Database) : Type 0 where
  pub history : new.history ≡ old.history
  pub tables : (values more : RecordKey → Option (List ℕ)) → more key ≡ value
      → ((j : RecordKey) → IsRecordKey t0.scale j → j ≢ key → more j ≡ values j) → AreTables t0 values old
      → AreTables t0 more new

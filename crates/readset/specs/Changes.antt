-- A step of a transaction changes a short list of records, each named by its key.
use Rattle.std.specs.Prelude.{◌≡◌, ◌≢◌, ℕ, ◌<◌, Option, Some, None, List, [], ◌∷◌}
use Rattle.tables.specs.Sizes.{Sizes}
use Rattle.tables.specs.Database.{Database}
use Rattle.tables.specs.Records.{record_count, key_of, number_of_key, IsRecordKey}
use Rattle.tables.specs.Rows.{rows}
use Rattle.tables.specs.declared.keys.OrderKey.{OrderKey}
use Rattle.tables.specs.declared.records.RecordKey.{RecordKey}
use Rattle.tables.specs.declared.records.RecordKey.TheVariants as key
use Rattle.readset.specs.Writes.{WriteSetView, puts, value_for, rows_with}

-- these are the rows by key once these writes are put into the tables, as when a transaction has come so far, and the
-- writes take out only rows of NEW-ORDER
pub record Holds (t : Database) (writes : WriteSetView) (row : RecordKey → Option (List ℕ)) : Type 0 where
  pub put_in : (n : ℕ) → n < record_count t.scale → row (key_of t.scale n) ≡ rows_with writes (rows t) n
  pub absent : (n : ℕ) → n < record_count t.scale → value_for writes n ≡ Some None
      → (k : OrderKey) × (key_of t.scale n ≡ key.NewOrder k)

-- records, and what each is to hold
abbrev pub Changes : Type 0
Changes = List (RecordKey × Option (List ℕ))

-- the rows have all these changes
abbrev pub Says : (RecordKey → Option (List ℕ)) → Changes → Type 0
Says row [] = Unit {0}
Says row (c ∷ cs) = (row c.0 ≡ c.1) × Says row cs

-- this record has none of these changes
abbrev pub Apart : RecordKey → Changes → Type 0
Apart k [] = Unit {0}
Apart k (c ∷ cs) = (k ≢ c.0) × Apart k cs

-- all of them are of records of the scale
abbrev pub AreKeys : Sizes → Changes → Type 0
AreKeys s [] = Unit {0}
AreKeys s (c ∷ cs) = IsRecordKey s c.0 × AreKeys s cs

-- each row that they take out is of NEW-ORDER
abbrev pub TakeOnlyNewOrders : Changes → Type 0
TakeOnlyNewOrders [] = Unit {0}
TakeOnlyNewOrders (c ∷ cs) = (c.1 ≡ None → (k : OrderKey) × (c.0 ≡ key.NewOrder k)) × TakeOnlyNewOrders cs

-- the same writes, with these changes
abbrev pub puts_all : Sizes → WriteSetView → Changes → WriteSetView
puts_all s writes [] = writes
puts_all s writes (c ∷ cs) = puts_all s (puts writes (number_of_key s c.0) c.1) cs

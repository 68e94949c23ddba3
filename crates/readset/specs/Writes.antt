-- What a transaction is to write (Silo, section 4.4: the write set).
use Rattle.std.specs.Prelude.{◌≡◌, ℕ, Option, Some, None, List, [], ◌∷◌, unwrap_or}
use Rattle.std.specs.Ordering.{nat_cmp}
use Rattle.std.specs.Map.{lookup}
use Rattle.std.specs.BTreeMap.{is_at, insert_entry}
use Rattle.tables.specs.declared.rows.History.{History}
use Rattle.cells.specs.Records.{CellsView, IsOfKind}

-- what each record written is to hold, by record number in the order of the numbers, and the HISTORY row, if there is
-- one
pub record WriteSetView : Type 0 where
  pub values : List (ℕ × Option (List ℕ))
  pub history_row : Option History

-- what this record is to hold
abbrev pub value_for : WriteSetView → ℕ → Option (Option (List ℕ))
value_for writes n = lookup (is_at (nat_cmp n)) writes.values

-- the words that a wide record is to hold, among those values
abbrev pub as_written : ℕ × List ℕ → ℕ × Option (List ℕ)
as_written e = (e.0, Some e.1)

-- each record is to hold as many words as one of its kind does
abbrev pub AreWrittenOfKind : CellsView → WriteSetView → Type 0
AreWrittenOfKind cells writes = (n : ℕ) (value : Option (List ℕ)) → value_for writes n ≡ Some value
    → IsOfKind cells n value

-- nothing to write
abbrev pub no_writes : WriteSetView
no_writes = record { values = []; history_row = None }

-- the same writes, but for this value, which this record is to hold
abbrev pub puts : WriteSetView → ℕ → Option (List ℕ) → WriteSetView
puts writes n value = record { values = insert_entry nat_cmp writes.values n value; history_row = writes.history_row }

-- what the records hold once these values are put in
abbrev pub rows_with : WriteSetView → (ℕ → Option (List ℕ)) → ℕ → Option (List ℕ)
rows_with writes rows n = unwrap_or (value_for writes n) (rows n)

-- the rows that HISTORY gets
abbrev pub added : Option History → List History
added None = []
added (Some row) = row ∷ []

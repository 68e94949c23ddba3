-- What an entry of the history is to who writes it to a log file.
use Rattle.std.specs.Prelude.{◌≡◌, ℕ, ◌<◌, ◌≤◌, Option, Some, List, [], ◌∷◌, length}
use Rattle.std.specs.Ordering.{nat_cmp}
use Rattle.std.specs.List.{All}
use Rattle.std.specs.List.Sorted.{IsStrictlySortedBy}
use Rattle.std.specs.Map.{keys_of}
use Rattle.customer_data.specs.Text.{IsData}
use Rattle.customer_data.specs.Words.{data_words}
use Rattle.tables.specs.Sizes.{Sizes}
use Rattle.tables.specs.Database.{Database}
use Rattle.tables.specs.Apply.{after}
use Rattle.tables.specs.Records.{narrow_count, record_count}
use Rattle.tables.specs.WellFormed.{IsWellFormed}
use Rattle.cells.specs.Records.{IsNarrow}
use Rattle.encoding.specs.Puts.{IsRow}
use Rattle.readset.specs.Writes.{value_for}
use Rattle.tables.specs.declared.limits.TheConstants.{MAX_WRITES}
use Rattle.book.specs.History.{CommitsAt}
use Rattle.book.specs.declared.entry.Entry.{Entry}
use Rattle.tables.specs.declared.limits.TheConstants.{MAX_TERMINALS}

-- the entry is done at some tables of this scale, which leaves well-formed ones
pub record IsDoneAtTables (s : Sizes) (e : Entry) : Type 0 where
  pub tables : Database
  pub scale : tables.scale ≡ s
  pub well_formed : IsWellFormed (after tables e.input)
  pub commits : CommitsAt tables e.input e.writes e.reply

-- the entry's writes are of records of the scale, in their order, and few, a narrow one holds as many words as it can,
-- and one of C_DATA a text's; and it is done at some tables
pub record IsLoggable (s : Sizes) (e : Entry) : Type 0 where
  pub ordered : IsStrictlySortedBy nat_cmp (keys_of e.writes.values)
  pub records : (n : ℕ) (value : Option (List ℕ)) → value_for e.writes n ≡ Some value → n < record_count s
  pub narrow : (n : ℕ) (value : Option (List ℕ)) → value_for e.writes n ≡ Some value → n < narrow_count s
      → IsNarrow value
  pub texts : (n : ℕ) (value : Option (List ℕ)) → value_for e.writes n ≡ Some value → narrow_count s ≤ n
      → IsRow data_words IsData value
  pub limit : length e.writes.values ≤ MAX_WRITES
  pub done : ∥ IsDoneAtTables s e ∥₁

-- all of a history may be written so, and its terminals are among these, which are few
pub record AreLoggable (s : Sizes) (terminals : ℕ) (history : List Entry) : Type 0 where
  pub each : All (IsLoggable s) history
  pub asked : All (λ e. e.terminal < terminals) history
  pub few : terminals ≤ MAX_TERMINALS

-- commit numbers rise strictly, from above this one
abbrev pub NumbersRise : ℕ → List Entry → Type 0
NumbersRise before [] = Unit {0}
NumbersRise before (e ∷ es) = (before < e.number) × NumbersRise e.number es

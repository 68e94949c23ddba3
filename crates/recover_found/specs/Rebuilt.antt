-- The tables that entries of log files make of those that a database began with.
use Rattle.std.specs.Prelude.{◌≡◌, ◌⊎◌, ℕ, ◌+◌, ◌<◌, ◌≤◌, false, Option, List, [], ◌∷◌, ◌++◌}
use Rattle.std.specs.Prelude.{flat_map, slice_index}
use Rattle.std.specs.List.{Contains}
use Rattle.std.specs.List.Sorted.{IsPermutation}
use Rattle.tables.specs.Sizes.{Sizes}
use Rattle.tables.specs.Database.{Database}
use Rattle.tables.specs.Records.{record_number}
use Rattle.tables.specs.Rows.{rows, money_of}
use Rattle.tables.specs.declared.rows.History.{History}
use Rattle.tables.specs.declared.records.Table.{Table}
use Rattle.tables.specs.declared.records.Table.TheVariants as table
use Rattle.encoding.specs.Held.{IsTableRecord, by_key, AreTables}
use Rattle.log_text.specs.Entries.{EntryView}
use Rattle.log_text.specs.Writes.{is_history, words_of_value}
use Rattle.log_text.specs.declared.write.Write.{Write}
use Rattle.log_text.specs.declared.write.Value.{Value}
use Rattle.log_text.specs.declared.write.Value.TheVariants as value

-- the number of the record that a write is of
abbrev pub number_of : Sizes → Write → ℕ
number_of s w = record_number s w.table w.place

-- an entry leaves this in the record of this number
pub record LeavesInRecord (s : Sizes) (e : EntryView) (n : ℕ) (value : Option (List ℕ)) : Type 0 where
  pub write : Write
  pub among : Contains e.writes write
  pub of_record : is_history write ≡ false
  pub number : number_of s write ≡ n
  pub words : words_of_value write.value ≡ value

-- an entry is no newer than another: of a smaller TID, or of the same and of no greater commit number
abbrev pub IsUpTo : EntryView → EntryView → Type 0
IsUpTo d e = (d.tid < e.tid) ⊎ ((d.tid ≡ e.tid) × (d.number ≤ e.number))

-- the newest of the entries that write a record leaves this in it
pub record IsNewest (s : Sizes) (es : List EntryView) (n : ℕ) (value : Option (List ℕ)) : Type 0 where
  pub entry : EntryView
  pub among : Contains es entry
  pub leaves : LeavesInRecord s entry n value
  pub newest : (d : EntryView) (other : Option (List ℕ)) → Contains es d → LeavesInRecord s d n other → IsUpTo d entry

-- no entry writes it
abbrev pub IsUnwritten : Sizes → List EntryView → ℕ → Type 0
IsUnwritten s es n = (d : EntryView) (other : Option (List ℕ)) → Contains es d → LeavesInRecord s d n other → ⊥

-- what entries leave in a record that held this at first
abbrev pub AreLeft : Sizes → List EntryView → ℕ → Option (List ℕ) → Option (List ℕ) → Type 0
AreLeft s es n first value = IsNewest s es n value ⊎ (IsUnwritten s es n × (value ≡ first))

-- the row of HISTORY of these words
abbrev pub history_of_words : List ℕ → History
history_of_words words = record {
  customer = slice_index words 0;
  customer_district = slice_index words 1;
  customer_warehouse = slice_index words 2;
  district = slice_index words 3;
  warehouse = slice_index words 4;
  date = slice_index words 5;
  amount = money_of (slice_index words 6);
}

-- the rows that a write adds to HISTORY, and those that an entry adds
abbrev pub rows_in : Table → Value → List History
rows_in table.History (value.Columns words) = history_of_words words ∷ []
rows_in _ _ = []

abbrev pub added_by : EntryView → List History
added_by e = flat_map (λ w. rows_in w.table w.value) e.writes

-- entries have the commit numbers from n on, in their order
abbrev pub AreNumbered : ℕ → List EntryView → Type 0
AreNumbered n [] = Unit {0}
AreNumbered n (e ∷ es) = (e.number ≡ n) × AreNumbered (n + 1) es

-- these are the entries in the order of their commit numbers, which are 1, 2, 3 and so on
pub record AreInOrder (es commits : List EntryView) : Type 0 where
  pub same : IsPermutation es commits
  pub numbers : AreNumbered 1 commits

-- the commit numbers of entries are 1 up to some number, each once
abbrev pub HaveNoGap : List EntryView → Type 0
HaveNoGap es = (commits : List EntryView) × AreInOrder es commits

-- tables in which each record of a table's row holds what the newest write left there, and HISTORY has the rows that
-- were added, in the order of commit numbers. Rows are within their ranges, and their columns that never change are the
-- first ones
pub record IsRebuilt (t0 : Database) (es : List EntryView) (t : Database) : Type 0 where
  pub tables : AreTables t0 (by_key t0.scale (rows t)) t
  pub records : (n : ℕ) → IsTableRecord t0.scale n → AreLeft t0.scale es n (rows t0 n) (rows t n)
  pub commits : List EntryView
  pub in_order : AreInOrder es commits
  pub history : t.history ≡ t0.history ++ flat_map added_by commits

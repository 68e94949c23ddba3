-- First versions that are being filled, a table at a time. No public clause cites them.
use Rattle.std.specs.Prelude.{◌≡◌, ℕ, ◌==◌, cond, Option, None, List, [], ◌∷◌, length}
use Rattle.tables.specs.Sizes.{Sizes}
use Rattle.tables.specs.Database.{Database}
use Rattle.tables.specs.Records.{IsNarrowKey, number_of_key, narrow_count}
use Rattle.tables.specs.Rows.{row_at}
use Rattle.cells.specs.First.{populated_word, first_version}
use Rattle.tables.specs.declared.records.RecordKey.{RecordKey}
use Rattle.tables.specs.declared.records.RecordKey.TheVariants as key
use Rattle.cells.specs.declared.cells.Newest.{Newest}
use Rattle.encoding.specs.Newest.{words_at}

-- each record of the scale begins with this value
pub record AreBegun (s : Sizes) (values : RecordKey → Option (List ℕ)) (newest : List Newest) : Type 0 where
  pub count : length newest ≡ narrow_count s
  pub words : (k : RecordKey) → IsNarrowKey s k → words_at newest (number_of_key s k) ≡ first_version (values k)

-- what rows hold, and nothing of the index records
abbrev pub rows_alone : Database → RecordKey → Option (List ℕ)
rows_alone t (key.Oldest k) = None
rows_alone t (key.Last k) = None
rows_alone t k = row_at t k

-- the data of a version
abbrev pub data_of : List ℕ → List ℕ
data_of [] = []
data_of (word ∷ words) = words

-- the version of record n after one entry of a table, where entries let these records begin with these words
abbrev pub begun_by : {K X : Type 0} → Sizes → (K → X → RecordKey) → (List ℕ → K → X → List ℕ) → ℕ → List ℕ → K × X
    → List ℕ
begun_by s record_of words_of n version e = cond (n == number_of_key s (record_of e.0 e.1))
    (populated_word ∷ words_of (data_of version) e.0 e.1) version

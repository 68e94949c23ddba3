-- The first versions of records, as a list by record number, and which values records may hold.
use Rattle.std.specs.Prelude.{◌≡◌, ℕ, ◌<◌, Option, List, [], length, map, slice_get, unwrap_or}
use Rattle.std.specs.Option.{option_map_or}
use Rattle.std.specs.List.{range_with_len}
use Rattle.std.specs.FinMap.{get}
use Rattle.customer_data.specs.Words.{data_words}
use Rattle.tables.specs.Sizes.{Sizes}
use Rattle.tables.specs.Database.{Database}
use Rattle.tables.specs.Records.{narrow_count, size, customer_at, key_of}
use Rattle.tables.specs.declared.records.Table.TheVariants as table
use Rattle.tables.specs.Rows.{rows}
use Rattle.cells.specs.Records.{newest_words}
use Rattle.cells.specs.First.{first_version, populated_word}
use Rattle.cells.specs.declared.cells.Newest.{Newest}
use Rattle.cells.specs.declared.wide.WideNewest.{WideNewest}
use Rattle.encoding.specs.Held.{IsTableRecord}
use Rattle.encoding.specs.Puts.{MayHold}

-- the words of record n's version
abbrev pub words_at : List Newest → ℕ → List ℕ
words_at newest n = option_map_or newest_words (slice_get newest n) []

-- each record of a table's row holds what it may hold
abbrev pub AreLawful : Sizes → (ℕ → Option (List ℕ)) → Type 0
AreLawful s values = (n : ℕ) → IsTableRecord s n → MayHold s (key_of s n) (values n)

-- what the records of C_DATA begin with, by place
abbrev pub text_version_of : Database → ℕ → WideNewest
text_version_of t p = record {
  word = populated_word;
  payload = data_words (unwrap_or (get t.texts (customer_at t.scale p)) []);
}

abbrev pub text_versions_of : Database → List WideNewest
text_versions_of t = map (text_version_of t) (range_with_len 0 (size t.scale table.CustomerData))

-- what the narrow records of tables begin with
pub record AreFirst (t0 : Database) (newest : List Newest) : Type 0 where
  pub count : length newest ≡ narrow_count t0.scale
  pub words : (n : ℕ) → n < narrow_count t0.scale → words_at newest n ≡ first_version (rows t0 n)

-- What the holder of the pen and a reader know of all records, and what a record holds by its newest version. Narrow
-- records, of a row's words or a number, come first by record number; behind them wide ones, of a customer's text.
use Rattle.std.specs.Prelude.{◌≡◌, ℕ, ◌+◌, ◌<◌, ◌≤◌, Option, List, ◌∷◌, ◌++◌, length}
use Rattle.std.specs.Option.{ForSome, IsSomeAnd}
use Rattle.money.specs.declared.payload.TheConstants.{PAYLOAD_WORDS}
use Rattle.customer_data.specs.declared.words.TheConstants.{DATA_WORDS}
use Rattle.atomic_table.specs.Seated.{TableId}
use Rattle.cells.specs.declared.cells.Version.{Version}
use Rattle.cells.specs.declared.cells.Newest.{Newest}
use Rattle.cells.specs.declared.wide.WideVersion.{WideVersion}
use Rattle.cells.specs.declared.wide.WideNewest.{WideNewest}
pub use Rattle.cells_pages.specs.Versions.{at}
use Rattle.cells_holders.specs.Records.{PenViewOf, ReaderViewOf, PagesPen, PagesReader}
pub use Rattle.cells_holders.specs.Records.{StoresVersion, LoadsRecord, LearnsRecord, HasGrown}
pub use Rattle.cells_holders.specs.Opening.{seen_all}
use Rattle.cells.specs.Versions.{newest, value_in}

-- the page of each record
pub record CellsView : Type 0 where
  pub narrow : List TableId
  pub wide : List TableId

abbrev pub cell_count : CellsView → ℕ
cell_count cells = length cells.narrow + length cells.wide

-- what a narrow record may hold: so many words, or nothing; and what a wide one does
abbrev pub IsNarrow : Option (List ℕ) → Type 0
IsNarrow value = ForSome value (λ words. length words ≡ PAYLOAD_WORDS)

abbrev pub IsWide : Option (List ℕ) → Type 0
IsWide value = IsSomeAnd value (λ words. length words ≡ DATA_WORDS)

-- record n may hold it
pub record IsOfKind (cells : CellsView) (n : ℕ) (value : Option (List ℕ)) : Type 0 where
  pub narrow : n < length cells.narrow → IsNarrow value
  pub wide : length cells.narrow ≤ n → IsWide value

abbrev pub PenView : Type 0
PenView = PenViewOf CellsView

abbrev pub ReaderView : Type 0
ReaderView = ReaderViewOf CellsView

-- who knows the narrow records, and the wide ones, knows all
abbrev pub both_pens : PagesPen → PagesPen → PenView
both_pens narrow wide = record {
  cells = record { narrow = narrow.cells; wide = wide.cells };
  all = narrow.all ++ wide.all;
}

abbrev pub both_readers : PagesReader → PagesReader → ReaderView
both_readers narrow wide = record {
  cells = record { narrow = narrow.cells; wide = wide.cells };
  seen = narrow.seen ++ wide.seen;
  loads = narrow.loads ++ wide.loads;
}

-- the words of a version
abbrev pub words_of : Version → List ℕ
words_of version = version.word ∷ version.payload

abbrev pub wide_words_of : WideVersion → List ℕ
wide_words_of version = version.word ∷ version.payload

-- the words of a record's newest version
abbrev pub newest_words : Newest → List ℕ
newest_words newest = newest.word ∷ newest.payload

abbrev pub wide_newest_words : WideNewest → List ℕ
wide_newest_words newest = newest.word ∷ newest.payload

-- what record n holds by its newest version: its data, or nothing where it is absent
abbrev pub held_by : PenView → ℕ → Option (List ℕ)
held_by pen n = value_in (newest (at pen.all n))

-- While cells are made, page by page.
use Rattle.std.specs.Prelude.{◌≡◌, ℕ, ◌%◌, ◌<◌, ◌≤◌, List, [], ◌++◌, map, length}
use Rattle.atomic_table.specs.Seated.{TableId}
use Rattle.cells_pages.specs.Versions.{AllVersions}
use Rattle.cells_holders.specs.Records.{PenViewOf, ReaderViewOf, PagesPen, PagesReader}
use Rattle.cells_holders.specs.Pages.{size_of}

-- what the pen knows, and how many readers there are
pub record Opened : Type 0 where
  pub written : PagesPen
  pub readers : ℕ

-- a reader that has seen all that the pen knows, and has loaded nothing
abbrev pub seen_all : {C : Type 0} → PenViewOf C → ReaderViewOf C
seen_all w = record { cells = w.cells; seen = w.all; loads = map (λ _. 0) w.all }

-- no record yet
abbrev pub without_records : ℕ → Opened
without_records readers = record { written = record { cells = []; all = [] }; readers = readers }

-- the records of one more page, with their cells and versions
abbrev pub written_with : PagesPen → List TableId → AllVersions → PagesPen
written_with w cells versions = record { cells = w.cells ++ cells; all = w.all ++ versions }

-- and a reader that has seen these versions and loaded none
abbrev pub sights_with : PagesReader → List TableId → AllVersions → PagesReader
sights_with s cells versions =
    record { cells = s.cells ++ cells; seen = s.seen ++ versions; loads = s.loads ++ map (λ _. 0) versions }

abbrev pub opened_with : Opened → List TableId → AllVersions → Opened
opened_with o cells versions = record { written = written_with o.written cells versions; readers = o.readers }

-- all pages so far are full, so that another may follow; and a page that may
abbrev pub AreFull : List TableId → Type 0
AreFull cells = length cells % 4096 ≡ 0

abbrev pub IsNext : ℕ → TableId → Type 0
IsNext n page = (0 < size_of n page) × (size_of n page ≤ 4096)

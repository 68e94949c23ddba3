-- The pages of all records, one after another: 4,096 records a page, but for the last.
use Rattle.std.specs.Prelude.{◌≡◌, ℕ, ◌*◌, ◌/◌, ◌<◌, ◌≤◌, All, List, [], ◌∷◌, ◌++◌, map, length, replicate}
use Rattle.std.specs.List.{flat_map}
use Rattle.atomic_table.specs.Seated.{TableId}
use Rattle.cells_pages.specs.Seats.{PageSeat}
use Rattle.cells_pages.specs.Views.{IsPen, IsReader}
use Rattle.cells_holders.specs.Records.{PagesPen, PagesReader}

-- how many words a record may have
abbrev pub IsRecordSize : ℕ → Type 0
IsRecordSize n = (0 < n) × (n ≤ 4096)

-- how many records of n words a page has, and its id, once for each
abbrev pub size_of : ℕ → TableId → ℕ
size_of n page = page.words / n

abbrev pub ids_of : ℕ → TableId → List TableId
ids_of n page = replicate (size_of n page) page

-- pages of these sizes
abbrev pub IsPaged : List ℕ → Type 0
IsPaged [] = Unit {0}
IsPaged (size ∷ []) = (0 < size) × (size ≤ 4096)
IsPaged (size ∷ next ∷ sizes) = (size ≡ 4096) × IsPaged (next ∷ sizes)

-- what the pen's seats know, one a page, by record number; and a reader's
abbrev pub written_of : ℕ → List PageSeat → PagesPen
written_of n seats = record {
  cells = flat_map (λ s. ids_of n s.table_id) seats;
  all = flat_map (λ s. s.me.0.seen) seats;
}

abbrev pub sights_of : ℕ → List PageSeat → PagesReader
sights_of n seats = record {
  cells = flat_map (λ s. ids_of n s.table_id) seats;
  seen = flat_map (λ s. s.me.0.seen) seats;
  loads = flat_map (λ s. s.me.0.loads) seats;
}

-- a seat of the pen's, and of a reader's, between calls
abbrev pub IsPenSeat : ℕ → PageSeat → Type 0
IsPenSeat n s = IsPen s.me.0 × (s.table_id.words ≡ length s.me.0.seen * n)

abbrev pub IsReaderSeat : ℕ → PageSeat → Type 0
IsReaderSeat n s = IsReader s.me.0 × (s.table_id.words ≡ length s.me.0.seen * n)
    × (length s.me.0.loads ≡ length s.me.0.seen)

-- seats of the pen's, and of a reader's, one a page
abbrev pub ArePenSeats : ℕ → List PageSeat → Type 0
ArePenSeats n seats = All (IsPenSeat n) seats × IsPaged (map (λ s. size_of n s.table_id) seats)

abbrev pub AreReaderSeats : ℕ → List PageSeat → Type 0
AreReaderSeats n seats = All (IsReaderSeat n) seats × IsPaged (map (λ s. size_of n s.table_id) seats)

-- and the seat of another page
abbrev pub written_and : ℕ → PagesPen → PageSeat → PagesPen
written_and n w s = record { cells = w.cells ++ ids_of n s.table_id; all = w.all ++ s.me.0.seen }

abbrev pub sights_and : ℕ → PagesReader → PageSeat → PagesReader
sights_and n r s = record {
  cells = r.cells ++ ids_of n s.table_id;
  seen = r.seen ++ s.me.0.seen;
  loads = r.loads ++ s.me.0.loads;
}

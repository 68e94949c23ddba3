-- What the holder of the pen and a reader know of all records, by record number, and what each call does to it.
use Rattle.std.specs.Prelude.{◌≡◌, ℕ, ◌+◌, List, [], ◌∷◌, ◌++◌, slice_index, slice_set}
use Rattle.atomic_table.specs.Seated.{TableId}
pub use Rattle.cells_pages.specs.Versions.{at}
use Rattle.cells_pages.specs.Versions.{AllVersions, StartsWith, EndsWith, IsRising}

-- the pen's: which cell a record has, and all its versions. What tells the cells is of any type: here the page of each
-- record, once for each
pub record PenViewOf (C : Type 0) : Type 0 where
  pub cells : C
  pub all : AllVersions

-- a reader's: which cell a record has, which first ones of its versions the reader has seen, and how often it has
-- loaded
pub record ReaderViewOf (C : Type 0) : Type 0 where
  pub cells : C
  pub seen : AllVersions
  pub loads : List ℕ

abbrev pub PagesPen : Type 0
PagesPen = PenViewOf (List TableId)

abbrev pub PagesReader : Type 0
PagesReader = ReaderViewOf (List TableId)

-- a version is stored in record n
pub record StoresVersion {C : Type 0} (old new : PenViewOf C) (n : ℕ) (version : List ℕ) : Type 0 where
  pub cells : new.cells ≡ old.cells
  pub others : new.all ≡ slice_set old.all n (at new.all n)
  pub last : at new.all n ≡ at old.all n ++ version ∷ []

-- a reader loads record n once, and this version is the last that it has then seen
pub record LoadsRecord {C : Type 0} (old new : ReaderViewOf C) (n : ℕ) (version : List ℕ) : Type 0 where
  pub cells : new.cells ≡ old.cells
  pub others : new.seen ≡ slice_set old.seen n (at new.seen n)
  pub other_loads : new.loads ≡ slice_set old.loads n (slice_index new.loads n)
  pub loads : slice_index new.loads n ≡ slice_index old.loads n + 1
  pub grows : StartsWith (at new.seen n) (at old.seen n)
  pub rising : IsRising (at new.seen n)
  pub last : EndsWith (at new.seen n) version

-- a reader has then seen all versions of record n, of which it had seen the first
pub record LearnsRecord {C : Type 0} (pen : PenViewOf C) (old new : ReaderViewOf C) (n : ℕ) : Type 0 where
  pub cells : new.cells ≡ old.cells
  pub others : new.seen ≡ slice_set old.seen n (at new.seen n)
  pub loads : new.loads ≡ old.loads
  pub learnt : at new.seen n ≡ at pen.all n
  pub grows : StartsWith (at pen.all n) (at old.seen n)
  pub rising : IsRising (at pen.all n)

-- a reader has seen what it had seen, and perhaps more
pub record HasGrown {C : Type 0} (old new : ReaderViewOf C) : Type 0 where
  pub cells : new.cells ≡ old.cells
  pub grows : (n : ℕ) → StartsWith (at new.seen n) (at old.seen n)

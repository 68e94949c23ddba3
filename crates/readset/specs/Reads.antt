-- What a transaction has read (Silo, section 4.4: the read set).
use Rattle.std.specs.Prelude.{◌≡◌, ℕ, ◌+◌, ◌<◌, Option, Some, None, List, slice_index}
use Rattle.std.specs.Ordering.{nat_cmp}
use Rattle.std.specs.Map.{lookup}
use Rattle.std.specs.BTreeMap.{is_at}
use Rattle.cells.specs.Versions.{StartsWith, EndsWith, value_in}
use Rattle.cells.specs.Records.{CellsView, IsNarrow, IsWide, IsOfKind, ReaderView, words_of, at}
use Rattle.cells.specs.declared.cells.Version.{Version}
use Rattle.cells.specs.declared.wide.WideVersion.{WideVersion}

-- the version read of each record, by record number, in the order of the numbers
abbrev pub ReadSetView : Type 0
ReadSetView = List (ℕ × Version)

-- a wide record's version stands there as one of more words
abbrev pub as_version : WideVersion → Version
as_version wide = record { «record» = wide.record; word = wide.word; payload = wide.payload }

abbrev pub as_read : ℕ × WideVersion → ℕ × Version
as_read e = (e.0, as_version e.1)

abbrev pub IsNarrowVersion : Version → Type 0
IsNarrowVersion version = IsNarrow (Some version.payload)

abbrev pub IsWideVersion : Version → Type 0
IsWideVersion version = IsWide (Some version.payload)

-- the version read of this record
abbrev pub held : ReadSetView → ℕ → Option Version
held reads n = lookup (is_at (nat_cmp n)) reads

-- what a version says that its record holds
abbrev pub value_of : Version → Option (List ℕ)
value_of version = value_in (words_of version)

-- the version that was read of this record has these words, or says that it is absent
abbrev pub IsReadAs : ReadSetView → ℕ → Option (List ℕ) → Type 0
IsReadAs reads n words = (v : Version) × (held reads n ≡ Some v) × (words ≡ value_of v)

-- these reads, and perhaps more
abbrev pub Keeps : ReadSetView → ReadSetView → Type 0
Keeps reads more = (n : ℕ) (v : Version) → held reads n ≡ Some v → held more n ≡ Some v

-- each is of a record that has a cell, where so many have one
abbrev pub AreWithin : ℕ → ReadSetView → Type 0
AreWithin cells reads = (n : ℕ) (v : Version) → held reads n ≡ Some v → n < cells

-- each has as many words as its record holds
abbrev pub AreReadOfKind : CellsView → ReadSetView → Type 0
AreReadOfKind cells reads = (n : ℕ) (v : Version) → held reads n ≡ Some v → IsOfKind cells n (Some v.payload)

-- between these two states, a reader has loaded exactly the records of these versions, each once, and each version is
-- what that load gave
pub record AreRead (old new : ReaderView) (reads : ReadSetView) : Type 0 where
  pub cells : new.cells ≡ old.cells
  pub records : (n : ℕ) (v : Version) → held reads n ≡ Some v → v.record ≡ n
  pub loads : (n : ℕ) (v : Version) → held reads n ≡ Some v → slice_index new.loads n ≡ slice_index old.loads n + 1
  pub grows : (n : ℕ) (v : Version) → held reads n ≡ Some v → StartsWith (at new.seen n) (at old.seen n)
  pub last : (n : ℕ) (v : Version) → held reads n ≡ Some v → EndsWith (at new.seen n) (words_of v)
  pub other_loads : (n : ℕ) → held reads n ≡ None → slice_index new.loads n ≡ slice_index old.loads n
  pub other_seen : (n : ℕ) → held reads n ≡ None → at new.seen n ≡ at old.seen n

-- Which records are narrow, by what was read of them and is to be written.
use Rattle.std.proofs.Common.{◌≡◌, ℕ, ◌<◌, ◌≤◌, List, Option, Some, None, length, refl, arith}
use Rattle.cells.specs.Records.{CellsView, IsNarrow, IsWide, IsOfKind}
use Rattle.cells.specs.declared.cells.Version.{Version}
use Rattle.readset.specs.Reads.{ReadSetView, AreReadOfKind, IsNarrowVersion, IsWideVersion, held}
use Rattle.readset.specs.Writes.{WriteSetView, AreWrittenOfKind, puts, value_for}
use Rattle.readset.proofs.TwoKinds.{below_wide, above_narrow}
use Rattle.readset.proofs.WrittenRecords.{each_put_value}

-- no words are both a row's and a text's
pub never_both : (value : Option (List ℕ)) → IsNarrow value → IsWide value → ⊥
never_both None narrow wide = wide
never_both (Some words) narrow wide = omega (arith, narrow words refl, wide)

pub version_never_both : (v : Version) → IsNarrowVersion v → IsWideVersion v → ⊥
version_never_both v = never_both (Some v.payload)

module _ (cells : CellsView) where
  pub reads_below : (reads : ReadSetView) → AreReadOfKind cells reads → (n : ℕ) → n < length cells.narrow
      → (m : ℕ) (v : Version) → held reads m ≡ Some v → IsWideVersion v → n < m
  reads_below reads kinds n small = below_wide IsNarrowVersion IsWideVersion (length cells.narrow) reads version_never_both
      (λ m v found. let k = kinds m v found in (k.narrow, k.wide)) n small

  pub reads_above : (reads : ReadSetView) → AreReadOfKind cells reads → (n : ℕ) → length cells.narrow ≤ n
      → (m : ℕ) (v : Version) → held reads m ≡ Some v → IsNarrowVersion v → m < n
  reads_above reads kinds n large = above_narrow IsNarrowVersion IsWideVersion (length cells.narrow) reads version_never_both
      (λ m v found. let k = kinds m v found in (k.narrow, k.wide)) n large

  pub writes_below : (writes : WriteSetView) → AreWrittenOfKind cells writes → (n : ℕ) → n < length cells.narrow
      → (m : ℕ) (value : Option (List ℕ)) → value_for writes m ≡ Some value → IsWide value → n < m
  writes_below writes kinds n small = below_wide IsNarrow IsWide (length cells.narrow) writes.values never_both
      (λ m v found. let k = kinds m v found in (k.narrow, k.wide)) n small

  pub writes_above : (writes : WriteSetView) → AreWrittenOfKind cells writes → (n : ℕ) → length cells.narrow ≤ n
      → (m : ℕ) (value : Option (List ℕ)) → value_for writes m ≡ Some value → IsNarrow value → m < n
  writes_above writes kinds n large = above_narrow IsNarrow IsWide (length cells.narrow) writes.values never_both
      (λ m v found. let k = kinds m v found in (k.narrow, k.wide)) n large

  -- a narrow record may hold what one does, and a wide one too
  pub narrow_kind : (n : ℕ) (value : Option (List ℕ)) → n < length cells.narrow → IsNarrow value → IsOfKind cells n value
  narrow_kind n value small narrow = record { narrow = λ _. narrow; wide = λ large. absurd (omega (arith, small, large)) }

  pub wide_kind : (n : ℕ) (value : Option (List ℕ)) → length cells.narrow ≤ n → IsWide value → IsOfKind cells n value
  wide_kind n value large wide = record { narrow = λ small. absurd (omega (arith, small, large)); wide = λ _. wide }

  -- one write more
  pub puts_kind : (writes : WriteSetView) (n : ℕ) (value : Option (List ℕ)) → AreWrittenOfKind cells writes → IsOfKind cells n value
      → AreWrittenOfKind cells (puts writes n value)
  puts_kind writes n value kinds here = each_put_value (IsOfKind cells) writes n value kinds here

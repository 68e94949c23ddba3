-- What is asked before a record of either kind is written, and what is so then.
use Rattle.std.proofs.Common.{◌≡◌, ℕ, ◌<◌, ◌≤◌, List, Option, Some, Result, Ok, Err, OnOk, OnErr, length, sym, subst}
use Rattle.cells.specs.Records.{CellsView, IsNarrow, IsWide, IsOfKind}
use Rattle.readset.specs.Writes.{WriteSetView, AreWrittenOfKind, puts, value_for}
use Rattle.readset.proofs.NarrowOrWide.{writes_below, writes_above, puts_kind}

module _ (cells : CellsView) (writes : WriteSetView) (kinds : AreWrittenOfKind cells writes) (n : ℕ) where
  pub below : n < length cells.narrow → (m : ℕ) (value : Option (List ℕ)) → value_for writes m ≡ Some value → IsWide value → n < m
  below = writes_below cells writes kinds n

  pub above : length cells.narrow ≤ n → (m : ℕ) (value : Option (List ℕ)) → value_for writes m ≡ Some value → IsNarrow value → m < n
  above = writes_above cells writes kinds n

pub still : {X E : Type 0} (cells : CellsView) (old new : WriteSetView) (n : ℕ) (value : Option (List ℕ)) (r : Result X E) → AreWrittenOfKind cells old
    → IsOfKind cells n value → OnOk r (new ≡ puts old n value) → OnErr r (new ≡ old) → AreWrittenOfKind cells new
still cells old new n value (Ok x) kinds here put kept = subst (AreWrittenOfKind cells) (sym put) (puts_kind cells old n value kinds here)
still cells old new n value (Err e) kinds here put kept = subst (AreWrittenOfKind cells) (sym kept) kinds

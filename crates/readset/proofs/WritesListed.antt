-- What is so of writes that stand as narrow ones and wide ones behind them.
use Rattle.std.proofs.Common.{◌≡◌, ℕ, ◌<◌, ◌≤◌, List, ◌++◌, Option, Some, All, inl, inr, length, get_or, sym, subst}
use Rattle.std.specs.Ordering.{nat_cmp}
use Rattle.std.specs.Map.{keys_of}
use Rattle.std.specs.List.Sorted.{IsStrictlySortedBy}
use Rattle.std.proofs.lemmas.Bool.{cases_lt}
use Rattle.cells.specs.Records.{CellsView, IsNarrow, IsWide}
use Rattle.readset.specs.Beside.{AreBeside}
use Rattle.readset.specs.Writes.{WriteSetView, AreWrittenOfKind, value_for}
use Rattle.readset.proofs.Entries.{each_found}
use Rattle.readset.proofs.NarrowOrWide.{never_both}
use Rattle.readset.proofs.TwoKinds.{all_first, all_behind}

module _ (narrow wide : List (ℕ × Option (List ℕ))) (writes : WriteSetView) (view : narrow ++ wide ≡ writes.values) (b : AreBeside IsNarrow IsWide narrow wide) where
  pub ordered : IsStrictlySortedBy nat_cmp (keys_of writes.values)
  ordered = subst (λ (es : List (ℕ × Option (List ℕ))). IsStrictlySortedBy nat_cmp (keys_of es)) view b.ordered

  pub found : All (λ e. value_for writes e.0 ≡ Some e.1) writes.values
  found = each_found writes.values ordered

-- where each is of its record's kind, the narrow ones are of narrow records, and the others of wide ones
module _ (cells : CellsView) (narrow wide : List (ℕ × Option (List ℕ))) (writes : WriteSetView) (kinds : AreWrittenOfKind cells writes)
    (view : narrow ++ wide ≡ writes.values) (b : AreBeside IsNarrow IsWide narrow wide) where
  all_found : All (λ e. value_for writes e.0 ≡ Some e.1) (narrow ++ wide)
  all_found = subst (All (λ (e : ℕ × Option (List ℕ)). value_for writes e.0 ≡ Some e.1)) (sym view) (found narrow wide writes view b)

  pub narrow_before : All (λ e. e.0 < length cells.narrow) narrow
  narrow_before i d inside =
      let e = get_or narrow i d in
      let is = all_first (λ e. value_for writes e.0 ≡ Some e.1) narrow wide all_found i d inside in
      elim (cases_lt e.0 (length cells.narrow)) [
        | inl small ↦ small
        | inr large ↦ absurd (never_both e.1 (b.low i d inside) ((kinds e.0 e.1 is).wide large))
      ]

  pub wide_behind : All (λ e. length cells.narrow ≤ e.0) wide
  wide_behind i d inside =
      let e = get_or wide i d in
      let is = all_behind (λ e. value_for writes e.0 ≡ Some e.1) narrow wide all_found i d inside in
      elim (cases_lt e.0 (length cells.narrow)) [
        | inl small ↦ absurd (never_both e.1 ((kinds e.0 e.1 is).narrow small) (b.high i d inside))
        | inr large ↦ large
      ]

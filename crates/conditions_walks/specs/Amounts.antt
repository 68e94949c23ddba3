-- Sums by group, as a map from the group to its sum.
use Rattle.std.specs.Prelude.{◌^◌, ℤ, pos, neg_ℤ, ◌≤ℤ◌, ◌<ℤ◌, Bool, cond, unwrap_or}
use Rattle.std.specs.BTreeMap.{BTreeMap, get}
use Rattle.std.specs.declared.cmp.Ordering.{Ordering}

-- what a row adds to the sum of a group, if it is of that group
abbrev pub share : Bool → ℤ → ℤ
share is_of amount = cond is_of amount (pos 0)

module _ {K : Type 0} (R : K → K → Ordering) where
  -- the sum of a group, 0 where there is none
  abbrev pub amount_at : BTreeMap K ℤ → K → ℤ
  amount_at sums k = unwrap_or (get R sums k) (pos 0)

  -- an amount of 64 bits can be added to each of them, and two of them can be subtracted
  abbrev pub AreBounded : BTreeMap K ℤ → Type 0
  AreBounded sums = ((k : K) → neg_ℤ (pos (2 ^ 126)) ≤ℤ amount_at sums k)
      × ((k : K) → amount_at sums k <ℤ pos (2 ^ 126))

-- Sums by group under way.
use Rattle.std.specs.Prelude.{◌*◌, ◌^◌, ℕ, ℤ, pos, neg_ℤ, ◌+ℤ◌, ◌≤ℤ◌, Option}
use Rattle.std.specs.Option.{option_map_or}
use Rattle.std.specs.Ordering.{eq_by_cmp}
use Rattle.std.specs.declared.cmp.Ordering.{Ordering}
use Rattle.conditions_walks.specs.Amounts.{amount_at, share}
use Rattle.conditions_walks.specs.declared.running.Running.{Running}

module _ {K : Type 0} (R : K → K → Ordering) where
  -- what is held adds to the sum of its group
  abbrev pub held_at : Option K → ℤ → K → ℤ
  held_at group held k = option_map_or (λ h. share (eq_by_cmp R h k) held) group (pos 0)

  -- the sum of a group, with what is held
  abbrev pub running_at : Running K → K → ℤ
  running_at s k = amount_at R s.sums k +ℤ held_at s.group s.held k

  -- no sum is further from 0 than n amounts of 64 bits
  pub record IsWithin (s : Running K) (n : ℕ) : Type 0 where
    pub low : (k : K) → neg_ℤ (pos (2 ^ 63 * n)) ≤ℤ running_at s k
    pub high : (k : K) → running_at s k ≤ℤ pos (2 ^ 63 * n)
    pub held_low : neg_ℤ (pos (2 ^ 63 * n)) ≤ℤ s.held
    pub held_high : s.held ≤ℤ pos (2 ^ 63 * n)

-- Newest writes in a list, found by record number.
use Rattle.std.specs.Prelude.{◌≡◌, ◌≢◌, ℕ, zero, suc, ◌≤◌, Option, None, List, slice_get, slice_index_or, length}
use Rattle.recover_newest.specs.declared.latest.Latest.{Latest}

-- writes, and of each record the place of its own among them, from 1, and 0 where none is known
pub record NewestView : Type 0 where
  pub places : List ℕ
  pub writes : List Latest

-- the write at a place from 1
abbrev pub at_place : List Latest → ℕ → Option Latest
at_place writes zero = None
at_place writes (suc k) = slice_get writes k

-- what is known of record n
abbrev pub known : NewestView → ℕ → Option Latest
known newest n = at_place newest.writes (slice_index_or newest.places n 0)

-- each place is that of a write, and no two records have one
pub record ArePlaces (places : List ℕ) (writes : List Latest) : Type 0 where
  pub within : (n : ℕ) → slice_index_or places n 0 ≤ length writes
  pub apart : (m n : ℕ) → slice_index_or places m 0 ≢ 0 → slice_index_or places m 0 ≡ slice_index_or places n 0 → m ≡ n

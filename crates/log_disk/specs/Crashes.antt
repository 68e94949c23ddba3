-- What a crash may leave on a disk.
use Rattle.std.specs.Prelude.{◌≡◌, ℕ, ◌+◌, ◌<◌, ◌≤◌, List, [], ◌∷◌, ◌++◌, length, slice_index}
use Rattle.log_disk.specs.Calls.{Call, Wrote, Synced}

-- after a write of n bytes at a place that a crash cuts short: any bytes there and past the old end, and any length
-- from the old one
pub record Torn (at n : ℕ) (old new : List ℕ) : Type 0 where
  pub no_shorter : length old ≤ length new
  pub before : (i : ℕ) → i < length old → i < at → slice_index new i ≡ slice_index old i
  pub after : (i : ℕ) → i < length old → at + n ≤ i → slice_index new i ≡ slice_index old i

-- a crash after these calls, newest first, may leave these bytes: what the last sync found, torn by each write since
abbrev pub MayLeave : List Call → List ℕ → Type 0
MayLeave [] bytes = bytes ≡ []
MayLeave (Wrote at n ∷ story) bytes = (old : List ℕ) × MayLeave story old × Torn at n old bytes
MayLeave (Synced seen ∷ story) bytes = bytes ≡ seen

-- whatever a crash after these calls leaves, it is so
abbrev pub Leaves : (List ℕ → Type 0) → List Call → Type 0
Leaves P story = (bytes : List ℕ) → MayLeave story bytes → P bytes

-- whatever a crash leaves after the old calls, or after any of the later ones
abbrev pub LeavesThrough : (List ℕ → Type 0) → List Call → List Call → Type 0
LeavesThrough P old [] = Leaves P old
LeavesThrough P old (call ∷ later) = Leaves P (call ∷ later ++ old) × LeavesThrough P old later

-- the new calls are the old ones and later ones, and whatever a crash leaves at any moment since the old ones, it is so
pub record LeavesOnly (P : List ℕ → Type 0) (old new : List Call) : Type 0 where
  pub later : List Call
  pub goes_on : new ≡ later ++ old
  pub each : LeavesThrough P old later

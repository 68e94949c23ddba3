-- The calls that a gate has had.
use Rattle.std.specs.Prelude.{◌≡◌, ℕ, ◌+◌, ◌-◌, ◌^◌, ◌<◌, ◌≤◌, max, min, Result, MatchResult}
use Rattle.money.specs.declared.refusal.Refusal.{Refusal}
use Rattle.terminals.specs.declared.gate.Calls.{Calls}

-- a count after so many calls more: it stays at the greatest number of 64 bits
abbrev pub capped_count : ℕ → ℕ → ℕ
capped_count n before = max before (min (before + n) (2 ^ 64 - 1))

-- the calls after one more of each kind
abbrev pub one_more_execute : Calls → Calls
one_more_execute calls = record calls { executes = capped_count 1 calls.executes }

abbrev pub one_more_commit : Calls → Calls
one_more_commit calls = record calls { commits = capped_count 1 calls.commits }

abbrev pub one_more_committed : Calls → Calls
one_more_committed calls = record calls { committed = capped_count 1 calls.committed }

-- the calls at so many tries of an input that came to this: one before each execution, at most as many before commits,
-- and one after the commit, before which there was one too
pub record AreCalls (tries : ℕ) (result : Result ℕ Refusal) (old new : Calls) : Type 0 where
  pub executes : new.executes ≡ capped_count tries old.executes
  pub commits : (n : ℕ) × (n ≤ tries) × (new.commits ≡ capped_count n old.commits)
      × MatchResult result (λ number. 0 < n) (λ refusal. Unit {0})
  pub committed : MatchResult result (λ number. new.committed ≡ capped_count 1 old.committed)
      (λ refusal. new.committed ≡ old.committed)

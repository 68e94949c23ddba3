-- The calls of a gate at several tries.
use Rattle.std.proofs.Common.{◌≡◌, ℕ, ◌+◌, Result, Ok, Err, ◌∙◌, ap, refl, arith}
use Rattle.money.specs.declared.refusal.Refusal.{Refusal}
use Rattle.terminals.specs.Calls.{AreCalls, capped_count}
use Rattle.terminals.specs.Tries.{IsAgain}
use Rattle.terminals.specs.declared.gate.Calls.{Calls}

counted_none : (n : ℕ) → n ≡ capped_count 0 n
counted_none n = omega arith

counted_more : (n m before : ℕ) → capped_count m (capped_count n before) ≡ capped_count (n + m) before
counted_more n m before = omega arith

-- at none, and at one more
pub calls_none : (refusal : Refusal) (calls : Calls) → AreCalls 0 (Err refusal) calls calls
calls_none refusal calls = record {
  executes = counted_none calls.executes;
  commits = (0, omega arith, counted_none calls.commits, tt);
  committed = refl;
}

pub calls_more : (tries : ℕ) (refusal : Refusal) (result : Result ℕ Refusal) (old between new : Calls)
    → AreCalls tries (Err refusal) old between → AreCalls 1 result between new → AreCalls (tries + 1) result old new
calls_more tries refusal (Ok number) old between new before last = record {
  executes = last.executes ∙ ap (capped_count 1) before.executes ∙ counted_more tries 1 old.executes;
  commits = (
    before.commits.0 + last.commits.0,
    omega (arith, before.commits.1, last.commits.1),
    last.commits.2 ∙ ap (capped_count last.commits.0) before.commits.2 ∙ counted_more before.commits.0 last.commits.0 old.commits,
    omega (arith, last.commits.3),
  );
  committed = last.committed ∙ ap (capped_count 1) before.committed;
}
calls_more tries refusal (Err other) old between new before last = record {
  executes = last.executes ∙ ap (capped_count 1) before.executes ∙ counted_more tries 1 old.executes;
  commits = (
    before.commits.0 + last.commits.0,
    omega (arith, before.commits.1, last.commits.1),
    last.commits.2 ∙ ap (capped_count last.commits.0) before.commits.2 ∙ counted_more before.commits.0 last.commits.0 old.commits,
    tt,
  );
  committed = last.committed ∙ before.committed;
}

-- another refusal has the same calls
same_calls : (tries : ℕ) (one other : Refusal) (old new : Calls) → AreCalls tries (Err one) old new → AreCalls tries (Err other) old new
same_calls tries one other old new calls = record {
  executes = calls.executes;
  commits = calls.commits;
  committed = calls.committed;
}

-- at one more that is to be tried again
pub calls_again : (tries : ℕ) (refusal : Refusal) (r : Result ℕ Refusal) (old between new : Calls) → IsAgain r
    → AreCalls tries (Err refusal) old between → AreCalls 1 r between new → AreCalls (tries + 1) (Err refusal) old new
calls_again tries refusal (Ok number) old between new again before last = absurd again
calls_again tries refusal (Err other) old between new again before last =
    same_calls (tries + 1) other refusal old new (calls_more tries refusal (Err other) old between new before last)

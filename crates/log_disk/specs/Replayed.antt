-- What the calls of a disk in memory leave is what a crash may leave. These lemmas stand here, and not in proofs/, as
-- the law of `Memory` names the last one.
use Rattle.std.specs.Prelude.{◌≡◌, ℕ, zero, suc, ◌+◌, ◌-◌, ◌<◌, ◌≤◌}
use Rattle.std.specs.Prelude.{List, [], ◌∷◌, ◌++◌, length, take, drop, fold, slice_index}
use Rattle.std.proofs.Common.{refl, sym, ap, ◌∙◌, subst, append_assoc}
use Rattle.std.proofs.Math.Nat.{le_refl, le_trans, le-add_right, add-sub_of_le, zero-lt-suc, not-suc-le-zero}
use Rattle.std.proofs.Math.Nat.{le_of_suc-le, le_of_suc-le-suc, suc-le-suc_iff}
use Rattle.std.proofs.lemmas.List.{length-append, length-take-le, drop-drop, get_or-drop, get_or-append_right}
use Rattle.log_disk.specs.declared.memory_call.MemoryCall.{MemoryCall}
use Rattle.log_disk.specs.declared.memory_call.MemoryCall.TheVariants.{Write, Sync}
use Rattle.log_disk.specs.Calls.{written}
use Rattle.log_disk.specs.Crashes.{Torn, MayLeave}
use Rattle.log_disk.specs.Memory.{Replay, nothing, after_call, replayed_calls}

-- no length is below 0
none_shorter : (n : ℕ) → zero ≤ n
none_shorter n = le_of_suc-le-suc (zero-lt-suc n)

-- what stands before the place
in_front : (at : ℕ) (old bytes rest : List ℕ) (i : ℕ) → i < length old → i < at
    → slice_index (take at old ++ bytes ++ rest) i ≡ slice_index old i
in_front zero old bytes rest i within below = absurd (not-suc-le-zero below)
in_front (suc at) [] bytes rest i within below = absurd (not-suc-le-zero within)
in_front (suc at) (x ∷ old) bytes rest zero within below = refl
in_front (suc at) (x ∷ old) bytes rest (suc i) within below =
    in_front at old bytes rest i (le_of_suc-le-suc within) (le_of_suc-le-suc below)

-- what stands behind the bytes
behind-written : (at : ℕ) (old bytes : List ℕ) (i : ℕ) → i < length old → at + length bytes ≤ i
    → slice_index (written old at bytes) i ≡ slice_index old i
behind-written at old bytes i within above =
    let end : ℕ = at + length bytes in
    let place : at ≤ length old
    = le_trans (le-add_right at (length bytes)) (le_trans above (le_of_suc-le within)) in
    get_or-append_right (take at old ++ bytes) (drop end old) end i 0
    (length-append (take at old) bytes ∙ ap (λ (n : ℕ). n + length bytes) (length-take-le at old place)) above
    ∙ get_or-drop end old (i - end) 0
    ∙ ap (slice_index old) (add-sub_of_le above)

-- bytes and what stands behind as many reach as far
reaches : (bytes old : List ℕ) → length old ≤ length (bytes ++ drop (length bytes) old)
reaches [] old = le_refl (length old)
reaches (b ∷ bytes) [] = none_shorter (length (b ∷ bytes ++ []))
reaches (b ∷ bytes) (x ∷ old) = suc-le-suc_iff.1 (reaches bytes old)

-- and so do those in front of them, with these
stays_long : (at : ℕ) (old rest : List ℕ) → length (drop at old) ≤ length rest
    → length old ≤ length (take at old ++ rest)
stays_long zero old rest long = long
stays_long (suc at) [] rest long = none_shorter (length rest)
stays_long (suc at) (x ∷ old) rest long = suc-le-suc_iff.1 (stays_long at old rest long)

-- a write that was done tears no more than its range
pub written_is_torn : (old : List ℕ) (at : ℕ) (bytes : List ℕ) → Torn at (length bytes) old (written old at bytes)
written_is_torn old at bytes = record {
  no_shorter =
      let rest : List ℕ = drop (at + length bytes) old in
      subst (λ (new : List ℕ). length old ≤ length new) (sym (append_assoc (take at old) bytes rest))
      (stays_long at old (bytes ++ rest)
      (subst (λ (tail : List ℕ). length (drop at old) ≤ length (bytes ++ tail)) (drop-drop (length bytes) at old)
      (reaches bytes (drop at old))));
  before = in_front at old bytes (drop (at + length bytes) old);
  after = behind-written at old bytes;
}

-- calls go on from what a crash may leave to what a crash may leave
goes_on : (calls : List MemoryCall) (r : Replay) → MayLeave r.story r.bytes
    → MayLeave (fold after_call r calls).story (fold after_call r calls).bytes
goes_on [] r may = may
goes_on (Write at bytes ∷ calls) r may =
    goes_on calls (after_call r (Write at bytes)) (r.bytes, may, written_is_torn r.bytes at bytes.items)
goes_on (Sync ∷ calls) r may = goes_on calls (after_call r Sync) refl

-- after any calls
pub replay_may_leave : (calls : List MemoryCall) → MayLeave (replayed_calls calls).story (replayed_calls calls).bytes
replay_may_leave calls = goes_on calls nothing refl

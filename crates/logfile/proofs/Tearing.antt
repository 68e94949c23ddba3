-- What a write leaves of bytes that stand in front of its place, and behind its range.
use Rattle.std.proofs.Common.{◌≡◌, ℕ, zero, suc, ◌+◌, ◌<◌, ◌≤◌, List, [], ◌∷◌, ◌++◌, length, take, drop, refl, ap, ◌∙◌, subst, arith, inl, inr}
use Rattle.std.proofs.Math.Nat.{le_refl, not-suc-le-zero, le_of_suc-le-suc, suc-le-suc_iff, zero-lt-suc}
use Rattle.std.specs.Prelude.{slice_index}
use Rattle.log_disk.specs.Calls.{written}
use Rattle.log_disk.specs.Crashes.{Torn}
use Rattle.logfile.specs.Staged.{IsStaged}

-- nothing torn
pub torn_not : (at n : ℕ) (bytes : List ℕ) → Torn at n bytes bytes
torn_not at n bytes = record {
  no_shorter = le_refl (length bytes);
  before = λ i within below. refl;
  after = λ i within above. refl;
}

-- a first byte in front of the place stays, and what is behind it is torn as before
torn_tail : (at n x b : ℕ) (old new : List ℕ) → Torn (suc at) n (x ∷ old) (b ∷ new) → Torn at n old new
torn_tail at n x b old new torn = record {
  no_shorter = le_of_suc-le-suc torn.no_shorter;
  before = λ i within below. torn.before (suc i) (suc-le-suc_iff.1 within) (suc-le-suc_iff.1 below);
  after = λ i within above. torn.after (suc i) (suc-le-suc_iff.1 within) (omega (arith, above));
}

-- what stands in front of the place stays
pub torn_behind : (front rest new : List ℕ) (k n : ℕ) → Torn (length front + k) n (front ++ rest) new
    → (more : List ℕ) × (new ≡ front ++ more) × Torn k n rest more
torn_behind [] rest new k n torn =
    let e : zero + k ≡ k = omega arith in
    (new, refl, subst (λ (at : ℕ). Torn at n rest new) e torn)
torn_behind (x ∷ front) rest [] k n torn = absurd (not-suc-le-zero torn.no_shorter)
torn_behind (x ∷ front) rest (b ∷ new) k n torn =
    let e : suc (length front) + k ≡ suc (length front + k) = omega arith in
    let moved : Torn (suc (length front + k)) n (x ∷ (front ++ rest)) (b ∷ new)
    = subst (λ (at : ℕ). Torn at n (x ∷ (front ++ rest)) (b ∷ new)) e torn in
    let same : b ≡ x = moved.before zero (zero-lt-suc (length (front ++ rest))) (zero-lt-suc (length front + k)) in
    let inner = torn_behind front rest new k n (torn_tail (length front + k) n x b (front ++ rest) new moved) in
    (inner.0, (λ i. same i ∷ inner.1 i), inner.2)

-- bytes that stay at each place stay at the front
stays : (text rest new : List ℕ) → length (text ++ rest) ≤ length new
    → ((i : ℕ) → i < length (text ++ rest) → slice_index new i ≡ slice_index (text ++ rest) i)
    → (more : List ℕ) × (new ≡ text ++ more)
stays [] rest new long same = (new, refl)
stays (x ∷ text) rest [] long same = absurd (not-suc-le-zero long)
stays (x ∷ text) rest (b ∷ new) long same =
    let first : b ≡ x = same zero (zero-lt-suc (length (text ++ rest))) in
    let inner = stays text rest new (le_of_suc-le-suc long) (λ i within. same (suc i) (suc-le-suc_iff.1 within)) in
    (inner.0, λ i. first i ∷ inner.1 i)

-- a write right behind the gate
behind_gate : (gate n : ℕ) (rest new : List ℕ) → Torn 1 n (gate ∷ rest) new → (more : List ℕ) × (new ≡ gate ∷ more)
behind_gate gate n rest [] torn = absurd (not-suc-le-zero torn.no_shorter)
behind_gate gate n rest (b ∷ new) torn =
    let same : b ≡ gate = torn.before zero (zero-lt-suc (length rest)) (zero-lt-suc zero) in
    (new, λ i. same i ∷ new)

-- a write of the gate
at_gate : (gate : ℕ) (text rest new : List ℕ) → Torn 0 1 (gate ∷ (text ++ rest)) new
    → (byte : ℕ) × (more : List ℕ) × (new ≡ byte ∷ (text ++ more))
at_gate gate text rest [] torn = absurd (not-suc-le-zero torn.no_shorter)
at_gate gate text rest (b ∷ new) torn =
    let inner = stays text rest new (le_of_suc-le-suc torn.no_shorter)
    (λ i within. torn.after (suc i) (suc-le-suc_iff.1 within) (omega arith)) in
    (b, inner.0, λ i. b ∷ inner.1 i)

-- while the text is written behind it, the gate stays
pub text_staged : (front : List ℕ) (gate n : ℕ) (rest text new : List ℕ) → Torn (length front + 1) n (front ++ gate ∷ rest) new
    → IsStaged front gate text new
text_staged front gate n rest text new torn =
    let split = torn_behind front (gate ∷ rest) new 1 n torn in
    let more = behind_gate gate n rest split.0 split.2 in
    inl (more.0, split.1 ∙ ap (λ (tail : List ℕ). front ++ tail) more.1)

-- while the gate is written, the text behind it stays
pub gate_staged : (front : List ℕ) (gate : ℕ) (text rest new : List ℕ) → Torn (length front) 1 (front ++ gate ∷ (text ++ rest)) new
    → IsStaged front gate text new
gate_staged front gate text rest new torn =
    let e : length front ≡ length front + 0 = omega arith in
    let split = torn_behind front (gate ∷ (text ++ rest)) new 0 1
    (subst (λ (at : ℕ). Torn at 1 (front ++ gate ∷ (text ++ rest)) new) e torn) in
    let more = at_gate gate text rest split.0 split.2 in
    inr (more.0, more.1, split.1 ∙ ap (λ (tail : List ℕ). front ++ tail) more.2)

-- a write behind the front leaves it
pub written_behind : (front rest : List ℕ) (k : ℕ) (bytes : List ℕ)
    → written (front ++ rest) (length front + k) bytes ≡ front ++ written rest k bytes
written_behind [] rest k bytes =
    let e : zero + k ≡ k = omega arith in
    ap (λ (at : ℕ). written rest at bytes) e
written_behind (x ∷ front) rest k bytes =
    let e : suc (length front) + k ≡ suc (length front + k) = omega arith in
    let f : suc (length front + k) + length bytes ≡ suc (length front + k + length bytes) = omega arith in
    ap (λ (at : ℕ). written (x ∷ (front ++ rest)) at bytes) e
    ∙ ap (λ (end : ℕ). take (suc (length front + k)) (x ∷ (front ++ rest)) ++ bytes ++ drop end (x ∷ (front ++ rest))) f
    ∙ ap (λ (tail : List ℕ). x ∷ tail) (written_behind front rest k bytes)

-- the text, written right behind the gate
pub text_written : (front : List ℕ) (gate : ℕ) (rest text : List ℕ)
    → written (front ++ gate ∷ rest) (length front + 1) text ≡ front ++ gate ∷ (text ++ drop (length text) rest)
text_written front gate rest text =
    let e : 1 + length text ≡ suc (length text) = omega arith in
    written_behind front (gate ∷ rest) 1 text
    ∙ ap (λ (end : ℕ). front ++ gate ∷ (text ++ drop end (gate ∷ rest))) e

-- the gate, written
pub gate_written : (front : List ℕ) (gate byte : ℕ) (rest : List ℕ)
    → written (front ++ gate ∷ rest) (length front) (byte ∷ []) ≡ front ++ byte ∷ rest
gate_written front gate byte rest =
    let e : length front ≡ length front + 0 = omega arith in
    ap (λ (at : ℕ). written (front ++ gate ∷ rest) at (byte ∷ [])) e
    ∙ written_behind front (gate ∷ rest) 0 (byte ∷ [])

-- What an amount that is added to the sum of a group changes.
use Rattle.std.proofs.Common.{◌≡◌, ℕ, ◌+◌, ◌*◌, ◌^◌, ◌≤◌, ℤ, pos, neg_ℤ, ◌+ℤ◌, ◌-ℤ◌, ◌≤ℤ◌, ◌<ℤ◌, Bool, true, false, cond, Option, Some, unwrap_or, refl, sym, ap, ◌∙◌, arith}
use Rattle.std.proofs.lemmas.Int.{ints}
use Rattle.std.proofs.Math.IntN.{+ℤ_idr}
use Rattle.std.specs.Ordering.{eq_by_cmp, is_eq}
use Rattle.std.specs.Cmp.{IsTotalOrder, eq_by_cmp_equiv, tied_itself}
use Rattle.std.specs.HashMap.Eq.{lookup_congr}
use Rattle.std.specs.BTreeMap as tree
use Rattle.std.specs.BTreeMap.{BTreeMap}
use Rattle.std.specs.declared.cmp.Ordering.{Ordering}
use Rattle.conditions_walks.specs.Amounts.{amount_at, share}
use Rattle.conditions_walks.specs.Running.{held_at, running_at, IsWithin}
use Rattle.conditions_walks.specs.declared.running.Running.{Running}

pub added : {K : Type 0} {R : K → K → Ordering} → IsTotalOrder R → (m n : BTreeMap K ℤ) (key : K) (a v : ℤ) → tree.Updates R m n key (Some v)
    → v ≡ amount_at R m key +ℤ a
    → (k : K) → amount_at R n k ≡ amount_at R m k +ℤ share (eq_by_cmp R key k) a
added {K} {R} o m n key a v h new k =
    ap (λ (w : Option ℤ). unwrap_or w (pos 0)) (h.0 k)
    ∙ (elim (eq_by_cmp R key k) as (λ b. eq_by_cmp R key k ≡ b → unwrap_or (cond b (Some v) (tree.get R m k)) (pos 0) ≡ amount_at R m k +ℤ share b a) [
      | true ↦ λ t. new ∙ ap (λ (w : Option ℤ). unwrap_or w (pos 0) +ℤ a) (lookup_congr (eq_by_cmp R) (eq_by_cmp_equiv o).congr m.entries key k t)
      | false ↦ λ t. sym (+ℤ_idr (amount_at R m k))
    ] refl)

-- what is held counts for its group
pub held_here : {K : Type 0} {R : K → K → Ordering} → IsTotalOrder R → (s : Running K) (k : K) → s.group ≡ Some k
    → running_at R s k ≡ amount_at R s.sums k +ℤ s.held
held_here {R = R} o s k held =
    ap (λ g. amount_at R s.sums k +ℤ held_at R g s.held k) held
    ∙ ap (λ b. amount_at R s.sums k +ℤ share b s.held) (ap is_eq (tied_itself o k))

-- what is held adds more
pub held_more : (b : Bool) (rest held a more : ℤ) → more ≡ held +ℤ a → rest +ℤ share b more ≡ (rest +ℤ share b held) +ℤ share b a
held_more true rest held a more is = omega (arith, ints)
held_more false rest held a more is = omega (arith, ints)

-- a sum moves by at most the amount
pub share_bounded : (b : Bool) (a before after : ℤ) → neg_ℤ (pos (2 ^ 63)) ≤ℤ a → a <ℤ pos (2 ^ 63) → after ≡ before +ℤ share b a
    → ((before -ℤ pos (2 ^ 63)) ≤ℤ after) × (after ≤ℤ (before +ℤ pos (2 ^ 63)))
share_bounded true a before after low high is = (omega (arith, ints), omega (arith, ints))
share_bounded false a before after low high is = (omega (arith, ints), omega (arith, ints))

-- so where none was further from 0 than n amounts, none is further than one more
pub within_more : {K : Type 0} (R : K → K → Ordering) (s s' : Running K) (n : ℕ) (b : K → Bool) (a : ℤ) → neg_ℤ (pos (2 ^ 63)) ≤ℤ a → a <ℤ pos (2 ^ 63)
    → IsWithin R s n → ((k : K) → running_at R s' k ≡ running_at R s k +ℤ share (b k) a)
    → neg_ℤ (pos (2 ^ 63 * (n + 1))) ≤ℤ s'.held → s'.held ≤ℤ pos (2 ^ 63 * (n + 1)) → IsWithin R s' (n + 1)
within_more R s s' n b a low high before moves held_low held_high = record {
  low = λ k. let moved = share_bounded (b k) a (running_at R s k) (running_at R s' k) low high (moves k) in
      omega (arith, ints, moved.0, before.low k);
  high = λ k. let moved = share_bounded (b k) a (running_at R s k) (running_at R s' k) low high (moves k) in
      omega (arith, ints, moved.1, before.high k);
  held_low = held_low;
  held_high = held_high;
}

-- nor than yet more
pub within_weaker : {K : Type 0} (R : K → K → Ordering) (s : Running K) (n m : ℕ) → n ≤ m → IsWithin R s n → IsWithin R s m
within_weaker R s n m le h = record {
  low = λ k. omega (arith, ints, h.low k);
  high = λ k. omega (arith, ints, h.high k);
  held_low = omega (arith, ints, h.held_low);
  held_high = omega (arith, ints, h.held_high);
}

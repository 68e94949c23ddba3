-- How the sequences of TIDs grow.
use Rattle.std.proofs.Common.{◌≡◌, ℕ, ◌+◌, ◌*◌, ◌/◌, ◌%◌, ◌^◌, ◌<◌, ◌≤◌, true, false, Option, Some, None, is_some, true≢false, ◌==◌, refl, sym, ap, subst}
use Rattle.std.proofs.Common.{arith}
use Rattle.std.specs.Prelude.{nat_lt, max, if◌then◌else◌}
use Rattle.std.proofs.lemmas.Bool.{eqb-false, ltb-true, ltb-false}
use Rattle.tidword.specs.Lawful.{next, next_after}

-- the sequence of a TID, and a TID of an epoch up to this one, whose sequence is at most this one
abbrev pub sequence_of : ℕ → ℕ
sequence_of tid = tid / 8 % 2 ^ 29

pub some_of : {x y : ℕ} → Some x ≡ Some y → x ≡ y
some_of {x = x} e = ap (or_zero x) e
  where
    or_zero : ℕ → Option ℕ → ℕ
    or_zero d (Some n) = n
    or_zero d None = d

pub never : {x : ℕ} → ◌≡◌ {A = Option ℕ} None (Some x) → ⊥
never e = true≢false (sym (ap is_some e))

-- of the TIDs that a commit takes, the sequence is at most one larger than those before
after_counts : (count greatest epoch tid : ℕ) → next_after greatest epoch ≡ Some tid → sequence_of greatest ≤ count → sequence_of tid ≤ count + 1
after_counts count greatest epoch tid e small =
    elim (nat_lt greatest (epoch * 2 ^ 32)) as
    (λ b. (if b then Some (epoch * 2 ^ 32) else if (greatest + 8) / 2 ^ 32 == epoch then Some (greatest + 8) else None) ≡ Some tid
    → sequence_of tid ≤ count + 1) [
      | true ↦ λ h. first (some_of h)
      | false ↦ λ h. elim ((greatest + 8) / 2 ^ 32 == epoch) as (λ b. (if b then Some (greatest + 8) else None) ≡ Some tid → sequence_of tid ≤ count + 1)
          [ true ↦ λ k. later (some_of k) | false ↦ λ k. absurd (never k) ] h
    ] e
  where
    first : epoch * 2 ^ 32 ≡ tid → sequence_of tid ≤ count + 1
    first h = omega (arith, h)

    later : greatest + 8 ≡ tid → sequence_of tid ≤ count + 1
    later h = omega (arith, h, small)

-- there is one, where those before are of no later epoch and their sequences leave one
after_exists : (count greatest epoch : ℕ) → next_after greatest epoch ≡ None → greatest / 2 ^ 32 ≤ epoch → sequence_of greatest ≤ count → count < 536870911 → ⊥
after_exists count greatest epoch e old small room =
    elim (nat_lt greatest (epoch * 2 ^ 32)) as
    (λ b. nat_lt greatest (epoch * 2 ^ 32) ≡ b
    → (if b then Some (epoch * 2 ^ 32) else if (greatest + 8) / 2 ^ 32 == epoch then Some (greatest + 8) else None) ≡ None → ⊥) [
      | true ↦ λ _ h. never (sym h)
      | false ↦ λ low h. elim ((greatest + 8) / 2 ^ 32 == epoch) as
          (λ b. ((greatest + 8) / 2 ^ 32 == epoch) ≡ b → (if b then Some (greatest + 8) else None) ≡ None → ⊥) [
            | true ↦ λ _ k. never (sym k)
            | false ↦ λ other k. eqb-false _ _ other (same (ltb-false _ _ low))
          ] refl h
    ] refl e
  where
    same : epoch * 2 ^ 32 ≤ greatest → (greatest + 8) / 2 ^ 32 ≡ epoch
    same h = omega (arith, h, old, small, room)

-- what holds of two numbers holds of the larger
pub max_is : (P : ℕ → Type 0) (a b : ℕ) → P a → P b → P (max a b)
max_is P a b p q = elim (nat_lt a b) as (λ t. nat_lt a b ≡ t → P (max a b)) [
  | true ↦ λ h. subst P (below (ltb-true _ _ h)) q
  | false ↦ λ h. subst P (above (ltb-false _ _ h)) p
] refl
  where
    below : a < b → b ≡ max a b
    below h = omega (arith, h)

    above : b ≤ a → a ≡ max a b
    above h = omega (arith, h)

pub next-counts : (count seen last epoch tid : ℕ) → next seen last epoch ≡ Some tid → sequence_of seen ≤ count → sequence_of last ≤ count
    → sequence_of tid ≤ count + 1
next-counts count seen last epoch tid e p q = after_counts count (max seen last) epoch tid e (max_is (λ n. sequence_of n ≤ count) seen last p q)

pub next-exists : (count seen last epoch : ℕ) → next seen last epoch ≡ None → seen / 2 ^ 32 ≤ epoch → last / 2 ^ 32 ≤ epoch → sequence_of seen ≤ count
    → sequence_of last ≤ count → count < 536870911 → ⊥
next-exists count seen last epoch e p q r s = after_exists count (max seen last) epoch e (max_is (λ n. n / 2 ^ 32 ≤ epoch) seen last p q)
    (max_is (λ n. sequence_of n ≤ count) seen last r s)

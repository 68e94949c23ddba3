-- The TID that a commit takes is lawful.
use Rattle.std.proofs.Common.{◌≡◌, ℕ, ◌+◌, ◌*◌, ◌/◌, ◌%◌, ◌^◌, ◌<◌, ◌==◌, true, false, Some, None, refl, arith}
use Rattle.std.specs.Prelude.{nat_lt, max, if◌then◌else◌}
use Rattle.std.proofs.lemmas.Bool.{eqb-true, ltb-true}
use Rattle.tidword.specs.TidWord.{tid_of}
use Rattle.tidword.specs.Lawful.{IsLawful, next, next_after}
use Rattle.tidword.proofs.Sequences.{some_of, never}

-- the least TID of an epoch above one without status bits
record IsNext (greatest epoch tid : ℕ) : Type 0 where
  bits : tid % 8 ≡ 0
  in_epoch : tid / 2 ^ 32 ≡ epoch
  above : greatest < tid

next_is : (greatest epoch tid : ℕ) → greatest % 8 ≡ 0 → next_after greatest epoch ≡ Some tid → IsNext greatest epoch tid
next_is greatest epoch tid even e =
    elim (nat_lt greatest (epoch * 2 ^ 32)) as
    (λ b. nat_lt greatest (epoch * 2 ^ 32) ≡ b
    → (if b then Some (epoch * 2 ^ 32) else if (greatest + 8) / 2 ^ 32 == epoch then Some (greatest + 8) else None) ≡ Some tid
    → IsNext greatest epoch tid) [
      | true ↦ λ low h. first (ltb-true _ _ low) (some_of h)
      | false ↦ λ _ h. elim ((greatest + 8) / 2 ^ 32 == epoch) as
          (λ b. ((greatest + 8) / 2 ^ 32 == epoch) ≡ b → (if b then Some (greatest + 8) else None) ≡ Some tid → IsNext greatest epoch tid) [
            | true ↦ λ same k. later (eqb-true _ _ same) (some_of k)
            | false ↦ λ _ k. absurd (never k)
          ] refl h
    ] refl e
  where
    first : greatest < epoch * 2 ^ 32 → epoch * 2 ^ 32 ≡ tid → IsNext greatest epoch tid
    first low is = record { bits = omega (arith, is); in_epoch = omega (arith, is); above = omega (arith, is, low) }

    later : (greatest + 8) / 2 ^ 32 ≡ epoch → greatest + 8 ≡ tid → IsNext greatest epoch tid
    later same is = record { bits = omega (arith, is, even); in_epoch = omega (arith, is, same); above = omega (arith, is) }

pub next-lawful : (seen last epoch tid : ℕ) → next (tid_of seen) (tid_of last) epoch ≡ Some tid → IsLawful seen last epoch tid
next-lawful seen last epoch tid e = lawful (next_is (max (tid_of seen) (tid_of last)) epoch tid (even seen last) e)
  where
    even : (a b : ℕ) → (max (tid_of a) (tid_of b)) % 8 ≡ 0
    even a b = omega arith

    lawful : IsNext (max (tid_of seen) (tid_of last)) epoch tid → IsLawful seen last epoch tid
    lawful is = record {
      bits = is.bits;
      in_epoch = is.in_epoch;
      above_seen = first (tid_of seen) (tid_of last) is.above;
      above_last =
          second (tid_of seen) (tid_of last) is.above;
    }
      where
        first : (a b : ℕ) → max a b < tid → a < tid
        first a b h = omega (arith, h)

        second : (a b : ℕ) → max a b < tid → b < tid
        second a b h = omega (arith, h)

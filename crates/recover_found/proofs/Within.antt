-- Whether an epoch is in one of the ranges, by one look.
use Rattle.std.proofs.Common.{◌≡◌, ◌⊎◌, inl, inr, ℕ, ◌-◌, ◌<◌, ◌≤◌, Bool, true, false, ◌&&◌, List, length, get_or, refl, sym, ap, ◌∙◌, arith}
use Rattle.std.specs.Prelude.{nat_le}
use Rattle.std.specs.List.{list_any}
use Rattle.std.proofs.lemmas.Bool.{cases_lt}
use Rattle.std.proofs.lemmas.Bool.Decides.{nat_tests}
use Rattle.std.proofs.lemmas.List.Elements.{All-from_get_or}
use Rattle.std.proofs.lemmas.List.Folds.{list_any_at, list_any_none}
use Rattle.std.specs.List.Sorted.{IsPartitionPoint}
use Rattle.recover_found.specs.Found.{is_spanned}
use Rattle.recover_found.specs.Spans.{AreReaching}
use Rattle.recover_found.specs.declared.spans.Span.{Span}

abbrev pub begins : ℕ → Span → Bool
begins epoch s = nat_le s.low epoch

and_false : (b : Bool) → (b && false) ≡ false
and_false true = refl
and_false false = refl

module _ (epoch : ℕ) (spans : List Span) (behind : ℕ) (d : Span) (reaching : AreReaching spans)
    (within : behind ≤ length spans)
    (point : IsPartitionPoint (λ s. nat_le s.low epoch ≡ true) (λ s. nat_le s.low epoch ≡ false) spans behind) where
  not_behind : (k : ℕ) → behind ≤ k → k < length spans → is_spanned epoch (get_or spans k d) ≡ false
  not_behind k le less = ap (λ (b : Bool). b && nat_le epoch (get_or spans k d).high) (point.1 k d le less)

  pub none_begins : behind ≡ 0 → false ≡ list_any (is_spanned epoch) spans
  none_begins none = sym (list_any_none (is_spanned epoch) spans
      (All-from_get_or (λ s. is_spanned epoch s ≡ false) spans d (λ k less. not_behind k (omega (arith, none)) less)))

  pub last_decides : 0 < behind → nat_le epoch (get_or spans (behind - 1) d).high ≡ list_any (is_spanned epoch) spans
  last_decides some = by (nat_le epoch (get_or spans (behind - 1) d).high) refl
    where
      by : (b : Bool) → nat_le epoch (get_or spans (behind - 1) d).high ≡ b → b ≡ list_any (is_spanned epoch) spans
      by true is =
          sym (list_any_at (is_spanned epoch) spans (behind - 1) d (omega (arith, some, within))
          (ap (λ (b : Bool). b && nat_le epoch (get_or spans (behind - 1) d).high) (point.0 (behind - 1) d (omega arith) (omega (arith, some))) ∙ is))
      by false is =
          sym (list_any_none (is_spanned epoch) spans (All-from_get_or (λ s. is_spanned epoch s ≡ false) spans d each))
        where
          each : (k : ℕ) → k < length spans → is_spanned epoch (get_or spans k d) ≡ false
          each k less = cases (cases_lt k behind)
            where
              cases : (k < behind) ⊎ (behind ≤ k) → is_spanned epoch (get_or spans k d) ≡ false
              cases (inl front) =
                  let highs : (get_or spans k d).high ≤ (get_or spans (behind - 1) d).high
                  = reaching.highs k (behind - 1) d (omega (arith, front)) (omega (arith, some, within)) in
                  let low : nat_le epoch (get_or spans k d).high ≡ false = grind (arith, nat_tests, highs, is) in
                  ap (λ (b : Bool). nat_le (get_or spans k d).low epoch && b) low ∙ and_false (nat_le (get_or spans k d).low epoch)
              cases (inr back) = not_behind k back less

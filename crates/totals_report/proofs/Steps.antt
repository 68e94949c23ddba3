-- What is found once one record more was asked.
use Rattle.std.proofs.Common.{◌≡◌, ℕ, ◌+◌, ◌<◌, ◌⊎◌, inl, inr, ◌↔◌, IsTrue, Bool, true, false, true≢false, Option, Some, None, refl, sym, ap, ◌∙◌, subst, arith}
use Rattle.std.proofs.Math.Nat.{eq-or-lt_of_le}
use Rattle.tables.specs.Sizes.{Sizes}
use Rattle.tables.specs.Records.{number_of_key, key_of, IsRecordKey}
use Rattle.tables.specs.declared.records.RecordKey.{RecordKey}
use Rattle.tables.proofs.Numbers.{one_to_one}
use Rattle.totals_report.specs.Found.{first_noted, IsLeastBroken}

up_to : (m n : ℕ) → m < n + 1 → (m ≡ n) ⊎ (m < n)
up_to m n h = eq-or-lt_of_le (omega (arith, h))

module _ {K : Type 0} (c : K → RecordKey) (s : Sizes) (HoldsAt : K → Type 0) where
  -- nothing to be noted at a number
  pub skipped : (n : ℕ) (r : Option K) → IsLeastBroken c s HoldsAt n r → ((k : K) → IsRecordKey s (c k) → number_of_key s (c k) ≡ n → HoldsAt k)
      → IsLeastBroken c s HoldsAt (n + 1) r
  skipped n (Some k) found other = found
  skipped n None found other = λ k is below. either k is (up_to (number_of_key s (c k)) n below)
    where
      either : (k : K) → IsRecordKey s (c k) → (number_of_key s (c k) ≡ n) ⊎ (number_of_key s (c k) < n) → HoldsAt k
      either k is (inl same) = other k is same
      either k is (inr less) = found k is less

  -- a key that was asked
  pub stepped : ((j k : K) → c j ≡ c k → j ≡ k) → (k : K) → IsRecordKey s (c k) → (holds : Bool) → IsTrue holds ↔ HoldsAt k → (r : Option K)
      → IsLeastBroken c s HoldsAt (number_of_key s (c k)) r → IsLeastBroken c s HoldsAt (number_of_key s (c k) + 1) (first_noted r k holds)
  stepped one k is holds says (Some j) found = found
  stepped one k is true says None found =
      skipped (number_of_key s (c k)) None found (λ j at same. subst HoldsAt (sym (one j k (of_number j at same))) (says.0 refl))
    where
      of_number : (j : K) → IsRecordKey s (c j) → number_of_key s (c j) ≡ number_of_key s (c k) → c j ≡ c k
      of_number j at same = sym ((one_to_one s).0 (c j) at).1 ∙ ap (key_of s) same ∙ ((one_to_one s).0 (c k) is).1
  stepped one k is false says None found = (is, (λ h. true≢false (sym (says.1 h))), found)

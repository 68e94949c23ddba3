-- Bounds after one number more was looked at.
use Rattle.std.proofs.Common.{◌≡◌, ℕ, ◌≤◌, Bool, true, false, max, refl, sym, subst, arith}
use Rattle.tables.specs.Sizes.{IsNumber}
use Rattle.totals_bounds.specs.Ends.{IsLeast, IsGreatest}

module _ (cap : ℕ) (there left later : ℕ → Bool) (o : ℕ) (number : IsNumber cap o)
    (looked : (n : ℕ) → IsNumber cap n → later n ≡ false → left n ≡ true → n ≡ o) where
  -- what holds of the number and of those that weren't left
  each : (P : ℕ → Type 0) → (there o ≡ true → P o) → ((n : ℕ) → IsNumber cap n → there n ≡ true → left n ≡ false → P n)
      → (n : ℕ) → IsNumber cap n → there n ≡ true → later n ≡ false → P n
  each P this others n is found done = elim (left n) as (λ b. left n ≡ b → P n) [
    | true ↦ λ t. let same = looked n is done t in subst P (sym same) (this (subst (λ m. there m ≡ true) same found))
    | false ↦ λ f. others n is found f
  ] refl

  pub least_followed : (least greatest result : ℕ) → IsLeast cap there left least → IsGreatest cap there left greatest
      → (1 ≤ result → there result ≡ true) → (there o ≡ true → IsNumber o result)
      → ((n : ℕ) → there n ≡ true → IsNumber n least → n ≤ greatest → IsNumber n result) → result ≤ max o greatest
      → IsLeast cap there later result
  least_followed least greatest result low high reached this others small = record {
    within = each (λ n. IsNumber n result) this (λ n is found f. others n found (low.within n is found f) (high.within n is found f));
    found = λ some _. reached some;
    limit = omega (arith, number.1, high.limit);
  }

  pub greatest_followed : (greatest result : ℕ) → IsGreatest cap there left greatest
      → (1 ≤ result → there result ≡ true) → (there o ≡ true → o ≤ result) → ((n : ℕ) → there n ≡ true → n ≤ greatest → n ≤ result)
      → result ≤ max o greatest → IsGreatest cap there later result
  greatest_followed greatest result high reached this others small = record {
    within = each (λ n. n ≤ result) this (λ n is found f. others n found (high.within n is found f));
    found = λ some _. reached some;
    limit = omega (arith, number.1, high.limit);
  }

  -- the greatest, where the least is this
  pub greatest_beside : (least greatest result : ℕ) → IsLeast cap there later least → IsGreatest cap there left greatest
      → (1 ≤ result → there result ≡ true) → (there o ≡ true → IsNumber o least → o ≤ result)
      → ((n : ℕ) → there n ≡ true → IsNumber n least → n ≤ greatest → n ≤ result) → result ≤ cap → IsGreatest cap there later result
  greatest_beside least greatest result low high reached this others small = record {
    within = λ n is found done. each (λ m. IsNumber m least → m ≤ result) this
        (λ m at there_m f from. others m there_m from (high.within m at there_m f)) n is found done (low.within n is found done);
    found = λ some _. reached some;
    limit = small;
  }

-- nothing that is looked at
module _ (cap : ℕ) (there left later : ℕ → Bool) (looked : (n : ℕ) → IsNumber cap n → later n ≡ false → left n ≡ false) where
  pub least_kept : (least : ℕ) → IsLeast cap there left least → IsLeast cap there later least
  least_kept least low = record {
    within = λ n is found done. low.within n is found (looked n is done);
    found = λ some done. low.found some (looked least (some, low.limit) done);
    limit = low.limit;
  }

  pub greatest_kept : (greatest : ℕ) → IsGreatest cap there left greatest → IsGreatest cap there later greatest
  greatest_kept greatest high = record {
    within = λ n is found done. high.within n is found (looked n is done);
    found = λ some done. high.found some (looked greatest (some, high.limit) done);
    limit = high.limit;
  }

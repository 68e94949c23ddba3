-- How many numbers pass a test: one number more, or the same ones.
use Rattle.std.proofs.Common.{◌≡◌, ℕ, zero, suc, ◌+◌, ◌≤◌, ◌<◌, Bool, true, false, cond, ◌==◌, ◌&&◌, ◌||◌, List, ◌∷◌, length, filter, take, get_or}
use Rattle.std.proofs.Common.{refl, sym, ap, ◌∙◌, subst, arith}
use Rattle.std.proofs.Math.Bool.{or-false}
use Rattle.std.proofs.lemmas.Bool.{eqb-true}
use Rattle.std.proofs.lemmas.Bool.Decides.{nat_tests}
use Rattle.std.proofs.lemmas.List.Folds.{list_any_more}
use Rattle.std.proofs.lemmas.List.{length-take, get_or-take}
use Rattle.std.proofs.lemmas.List.Folds.{list_any_none}
use Rattle.std.proofs.lemmas.Grind.{get_or_default_zero}
use Rattle.std.proofs.lemmas.Map.Keys.{below_from_sorted, sorted_from_strictly_increasing}
use Rattle.std.specs.List.{list_any, range_with_len}
use Rattle.std.specs.List.Sorted.{IsStrictlyIncreasing}
use Rattle.tables_laws.proofs.Touched.{self}

length_next : (b : Bool) (a : ℕ) (ns : List ℕ) → length (cond b (a ∷ ns) ns) ≡ cond b 1 0 + length ns
length_next true a ns = omega arith
length_next false a ns = omega arith

-- tests that agree but at the number x, where the second may pass one more time
module _ (p q : ℕ → Bool) (x gain : ℕ) (elsewhere : (i : ℕ) → (x == i) ≡ false → q i ≡ p i) (here : cond (q x) 1 0 ≡ cond (p x) 1 0 + gain) where
  beyond : (a n : ℕ) → x < a → length (filter q (range_with_len a n)) ≡ length (filter p (range_with_len a n))
  beyond a zero above = refl
  beyond a (suc n) above =
      let other : (x == a) ≡ false = grind (arith, nat_tests, above) in
      length_next (q a) a (filter q (range_with_len (a + 1) n)) ∙ (λ i. cond (elsewhere a other i) 1 0 + beyond (a + 1) n (omega (arith, above)) i)
      ∙ sym (length_next (p a) a (filter p (range_with_len (a + 1) n)))

  pub one_gained : (a n : ℕ) → a ≤ x → x < a + n → length (filter q (range_with_len a n)) ≡ length (filter p (range_with_len a n)) + gain
  one_gained a zero low high = absurd (omega (arith, low, high))
  one_gained a (suc n) low high =
      let first : length (filter q (range_with_len a (suc n))) ≡ cond (q a) 1 0 + length (filter q (range_with_len (a + 1) n)) =
      length_next (q a) a (filter q (range_with_len (a + 1) n)) in
      let second : length (filter p (range_with_len a (suc n))) ≡ cond (p a) 1 0 + length (filter p (range_with_len (a + 1) n)) =
      length_next (p a) a (filter p (range_with_len (a + 1) n)) in
      elim (x == a) as (λ b. (x == a) ≡ b → length (filter q (range_with_len a (suc n))) ≡ length (filter p (range_with_len a (suc n))) + gain) [
        | true ↦ λ e.
            let same : x ≡ a = eqb-true x a e in
            let now : cond (q a) 1 0 ≡ cond (p a) 1 0 + gain = subst (λ i. cond (q i) 1 0 ≡ cond (p i) 1 0 + gain) same here in
            let rest = beyond (a + 1) n (omega (arith, same)) in
            omega (arith, first, second, now, rest)
        | false ↦ λ e.
            let above : a + 1 ≤ x = grind (arith, nat_tests, e, low) in
            let now : ◌≡◌ {A = ℕ} (cond (q a) 1 0) (cond (p a) 1 0) = ap {B = ℕ} (λ b. cond b 1 0) (elsewhere a e) in
            let rest = one_gained (a + 1) n above (omega (arith, high)) in
            omega (arith, first, second, now, rest)
      ] refl

-- the number x seen once more, where `low` says which numbers count
counted_once : (seen low : Bool) → cond ((seen || true) && low) 1 0 ≡ cond (seen && low) 1 0 + cond seen 0 (cond low 1 0)
counted_once true true = refl
counted_once true false = refl
counted_once false true = refl
counted_once false false = refl

pub none_counted : (a n : ℕ) → length (filter (λ i. false) (range_with_len a n)) ≡ 0
none_counted a zero = refl
none_counted a (suc n) = none_counted (a + 1) n

-- the element at a place of a list of numbers, after those before it
module _ (xs : List ℕ) (at : ℕ) (within : at < length xs) where
  abbrev x : ℕ
  x = get_or xs at 0

  abbrev before : ℕ → Bool
  before i = list_any (λ j. j == i) (take at xs)

  abbrev after : ℕ → Bool
  after i = list_any (λ j. j == i) (take (at + 1) xs)

  after_is : (i : ℕ) → after i ≡ (before i || (x == i))
  after_is i = list_any_more (λ j. j == i) xs at 0 within

  -- it is none of them, where the numbers rise
  pub unseen : IsStrictlyIncreasing xs → before x ≡ false
  unseen rising = list_any_none (λ j. j == x) (take at xs) (λ k d inside.
      let first : k < at = omega (arith, within, inside, length-take at xs) in
      let less : get_or xs k d < x =
      subst (λ n. n < x) (sym (get_or_default_zero xs k d (omega (arith, first, within)))) (below_from_sorted xs k at 0 (sorted_from_strictly_increasing xs rising) first within) in
      ap (λ n. n == x) (get_or-take at xs k d first) ∙ apart (get_or xs k d) x less)
    where
      apart : (a b : ℕ) → a < b → (a == b) ≡ false
      apart a b less = grind (arith, nat_tests, less)

  -- how many of the numbers from 1 to n are among them and low
  counted_after : (low : ℕ → Bool) (n : ℕ) → 1 ≤ x → x ≤ n
      → length (filter (λ i. after i && low i) (range_with_len 1 n)) ≡ length (filter (λ i. before i && low i) (range_with_len 1 n)) + cond (before x) 0
      (cond (low x) 1 0)
  counted_after low n first last =
      one_gained (λ i. before i && low i) (λ i. after i && low i) x (cond (before x) 0 (cond (low x) 1 0))
      (λ i e. ap (λ b. b && low i) (after_is i ∙ ap (λ b. before i || b) e ∙ or-false (before i)))
      (ap (λ b. cond (b && low x) 1 0) (after_is x ∙ ap (λ b. before x || b) (self x)) ∙ counted_once (before x) (low x))
      1 n first (omega (arith, last))

  pub counted_next : (low : ℕ → Bool) (n : ℕ) → IsStrictlyIncreasing xs → 1 ≤ x → x ≤ n
      → length (filter (λ i. after i && low i) (range_with_len 1 n)) ≡ length (filter (λ i. before i && low i) (range_with_len 1 n)) + cond (low x) 1 0
  counted_next low n rising first last =
      counted_after low n first last ∙ ap (λ b. length (filter (λ i. before i && low i) (range_with_len 1 n)) + cond b 0 (cond (low x) 1 0)) (unseen rising)

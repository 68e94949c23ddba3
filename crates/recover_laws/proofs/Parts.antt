-- What files have, one after another, are the parts of one list.
use Rattle.std.proofs.Common.{◌≡◌, ℕ, zero, suc, ◌+◌, ◌<◌, ◌≤◌, Bool, true, false, not, cond, List, [], ◌∷◌, ◌++◌, map, length, refl, sym, ap, ◌∙◌, subst}
use Rattle.std.proofs.Common.{arith, add-zero}
use Rattle.std.specs.Prelude.{◌==◌, flat_map, slice_index_or}
use Rattle.std.specs.List.{AllByRecursion, filter}
use Rattle.std.specs.List.Sorted.{IsPermutation}
use Rattle.std.proofs.lemmas.Bool.Decides.{nat_tests}
use Rattle.std.proofs.lemmas.List.{map-append}
use Rattle.std.proofs.lemmas.List.Sorted.{IsPermutation-refl, IsPermutation-trans, IsPermutation-append_right, IsPermutation-filter_both}

module _ {X : Type 0} (lane : X → ℕ) where
  -- those of this lane, and those of so many lanes from this one on, lane after lane
  abbrev pub of_lane : ℕ → List X → List X
  of_lane k xs = filter (λ x. lane x == k) xs

  abbrev others : ℕ → List X → List X
  others k xs = filter (λ x. not (lane x == k)) xs

  abbrev pub parts : ℕ → ℕ → List X → List X
  parts k zero xs = []
  parts k (suc m) xs = of_lane k xs ++ parts (k + 1) m xs

  -- other lanes don't miss one
  lane_there : (k j : ℕ) (xs : List X) → k < j → of_lane j (others k xs) ≡ of_lane j xs
  lane_there k j [] h = refl
  lane_there k j (x ∷ xs) h =
      elim (lane x == k) as (λ b. (lane x == k) ≡ b → of_lane j (cond (not b) (x ∷ others k xs) (others k xs)) ≡ of_lane j (x ∷ xs)) [
        | true ↦ λ here. lane_there k j xs h ∙ sym (ap (λ (b : Bool). cond b (x ∷ of_lane j xs) (of_lane j xs)) (not_it here))
        | false ↦ λ _. ap (λ (l : List X). cond (lane x == j) (x ∷ l) l) (lane_there k j xs h)
      ] refl
    where
      not_it : (lane x == k) ≡ true → (lane x == j) ≡ false
      not_it e = grind (arith, nat_tests)

  parts_there : (k j m : ℕ) (xs : List X) → k < j → parts j m (others k xs) ≡ parts j m xs
  parts_there k j zero xs h = refl
  parts_there k j (suc m) xs h = λ i. lane_there k j xs h i ++ parts_there k (j + 1) m xs (omega (arith, h)) i

  -- the others are of later lanes
  later : (k m : ℕ) (xs : List X) → AllByRecursion (λ x. (k ≤ lane x) × (lane x < k + suc m)) xs
      → AllByRecursion (λ x. (k + 1 ≤ lane x) × (lane x < k + 1 + m)) (others k xs)
  later k m [] h = tt
  later k m (x ∷ xs) h =
      elim (lane x == k) as (λ b. (lane x == k) ≡ b
      → AllByRecursion (λ x. (k + 1 ≤ lane x) × (lane x < k + 1 + m)) (cond (not b) (x ∷ others k xs) (others k xs))) [
        | true ↦ λ _. later k m xs h.1
        | false ↦ λ e. ((more e, omega (arith, h.0.1)), later k m xs h.1)
      ] refl
    where
      more : (lane x == k) ≡ false → k + 1 ≤ lane x
      more e = let low = h.0.0 in grind (arith, nat_tests)

  none_left : (k : ℕ) (xs : List X) → AllByRecursion (λ x. (k ≤ lane x) × (lane x < k + zero)) xs → xs ≡ []
  none_left k [] h = refl
  none_left k (x ∷ xs) h = absurd (omega (arith, h.0.0, h.0.1))

  -- lane after lane, nothing is missed
  pub parts_all : (k m : ℕ) (xs : List X) → AllByRecursion (λ x. (k ≤ lane x) × (lane x < k + m)) xs → IsPermutation xs (parts k m xs)
  parts_all k zero xs h = subst (λ (l : List X). IsPermutation l []) (sym (none_left k xs h)) (IsPermutation-refl [])
  parts_all k (suc m) xs h =
      let rest = parts_all (k + 1) m (others k xs) (later k m xs h) in
      IsPermutation-trans _ _ _ (IsPermutation-filter_both (λ x. lane x == k) (λ x. not (lane x == k)) (λ x. refl) xs)
      (IsPermutation-append_right (of_lane k xs) _ _ (subst (IsPermutation (others k xs)) (parts_there k (k + 1) m xs (omega arith)) rest))

-- what is taken of files, where each has its lane's part
pub files_parts : {X Y B : Type 0} (lane : X → ℕ) (g : X → Y) (take_of : B → List Y) (none : B) (k : ℕ) (files : List B) (xs : List X)
    → ((l : ℕ) → l < length files → take_of (slice_index_or files l none) ≡ map g (of_lane lane (k + l) xs))
    → flat_map take_of files ≡ map g (parts lane k (length files) xs)
files_parts lane g take_of none k [] xs same = refl
files_parts lane g take_of none k (b ∷ files) xs same =
    let first : take_of b ≡ map g (of_lane lane k xs) = same zero (omega arith) ∙ ap (λ (n : ℕ). map g (of_lane lane n xs)) (add-zero k) in
    let rest : flat_map take_of files ≡ map g (parts lane (k + 1) (length files) xs)
    = files_parts lane g take_of none (k + 1) files xs (λ l h. same (suc l) (omega (arith, h)) ∙ ap (λ (n : ℕ). map g (of_lane lane n xs)) (moved k l)) in
    (λ i. first i ++ rest i) ∙ sym (map-append g (of_lane lane k xs) (parts lane (k + 1) (length files) xs))
  where
    moved : (k l : ℕ) → k + suc l ≡ k + 1 + l
    moved k l = omega arith

-- Sums over the rows of a table, over a list of rows, and over the numbers from 1 on.
use Rattle.std.proofs.Common.{◌≡◌, ◌≢◌, ℕ, zero, suc, ◌*◌, ℤ, pos, ◌+ℤ◌, Bool, true, false, cond, T, ◌==◌, List, [], ◌∷◌, map, Option, Some, refl, sym}
use Rattle.std.proofs.Common.{ap, ◌∙◌}
use Rattle.std.proofs.Common.{arith}
use Rattle.std.specs.Prelude.{fold}
use Rattle.std.specs.List.{flat_map}
use Rattle.std.specs.Option.{option_map_or}
use Rattle.std.specs.Ordering.{eq_by_cmp}
use Rattle.std.specs.FinMap.{FinMap, entries, entries_sorted, get-entries, find, is_sorted}
use Rattle.std.specs.declared.cmp.Ordering.{Ordering}
use Rattle.std.proofs.lemmas.Int.{ints}
use Rattle.std.proofs.lemmas.Bool.Decides.{nat_tests}
use Rattle.std.proofs.lemmas.List.Sums.{fold_push, fold-append}
use Rattle.std.proofs.lemmas.List.Folds.{fold-map}
use Rattle.tables.specs.Sizes.{IsNumber}
use Rattle.tables.specs.Maps.{sum_entries, sum_of, total, column}
use Rattle.tables.proofs.Orders.{IsExact}
use Rattle.tables.proofs.Entries.{first, second, absent_after}
use Rattle.tables.proofs.Totals.{entries_zero}
use Rattle.population_tables.specs.Plain.{numbers}
use Rattle.population_tables.proofs.Lists.{flat_map_more}

-- ---- over the numbers from 1 on
pub sum_more : (f : ℕ → ℤ) (n : ℕ) → sum_of f (numbers (suc n)) ≡ sum_of f (numbers n) +ℤ f (suc n)
sum_more f n = fold_push (λ (a : ℤ) (i : ℕ). a +ℤ f i) (pos 0) (numbers n) (suc n)

one_more : (n x : ℕ) (a b : ℤ) → a ≡ pos (n * x) → b ≡ pos x → a +ℤ b ≡ pos (suc n * x)
one_more n x a b p q = omega (arith, ints)

-- each term is x
pub sum_each : (f : ℕ → ℤ) (n x : ℕ) → ((i : ℕ) → IsNumber n i → f i ≡ pos x) → sum_of f (numbers n) ≡ pos (n * x)
sum_each f zero x each = omega (arith, ints)
sum_each f (suc n) x each =
    sum_more f n ∙ one_more n x _ _ (sum_each f n x (λ i h. each i (h.0, omega arith))) (each (suc n) (omega arith, omega arith))

-- equal terms have equal sums
pub sum_same : (f g : ℕ → ℤ) (n : ℕ) → ((i : ℕ) → IsNumber n i → f i ≡ g i) → sum_of f (numbers n) ≡ sum_of g (numbers n)
sum_same f g zero same = refl
sum_same f g (suc n) same =
    sum_more f n ∙ (λ j. sum_same f g n (λ i h. same i (h.0, omega arith)) j +ℤ same (suc n) (omega arith, omega arith) j) ∙ sym (sum_more g n)

-- each term is 0
pub sum_none : (f : ℕ → ℤ) (n : ℕ) → ((i : ℕ) → IsNumber n i → f i ≡ pos 0) → sum_of f (numbers n) ≡ pos 0
sum_none f n none = sum_each f n 0 none ∙ ap pos (omega arith)

-- each term but the one at k is 0
pub sum_one : (f : ℕ → ℤ) (n k : ℕ) → IsNumber n k → ((i : ℕ) → IsNumber n i → i ≢ k → f i ≡ pos 0) → sum_of f (numbers n) ≡ f k
sum_one f zero k h none = absurd (omega arith)
sum_one f (suc n) k h none = sum_more f n ∙ elim (k == suc n) as (λ b. (k == suc n) ≡ b → sum_of f (numbers n) +ℤ f (suc n) ≡ f k) [
  | true ↦ λ t.
      let last : suc n ≡ k = grind (arith, nat_tests) in
      let before : sum_of f (numbers n) ≡ pos 0 = sum_none f n (λ i j. none i (j.0, omega arith) (λ e. omega arith)) in
      before_last _ _ _ before (ap f last)
  | false ↦ λ t.
      let within : IsNumber n k = (h.0, grind (arith, nat_tests)) in
      let last : f (suc n) ≡ pos 0 = none (suc n) (omega arith, omega arith) (λ e. omega arith) in
      after_found _ _ _ (sum_one f n k within (λ i j. none i (j.0, omega arith))) last
] refl
  where
    before_last : (a b c : ℤ) → a ≡ pos 0 → b ≡ c → a +ℤ b ≡ c
    before_last a b c p q = omega (arith, ints)

    after_found : (a b c : ℤ) → a ≡ c → b ≡ pos 0 → a +ℤ b ≡ c
    after_found a b c p q = omega (arith, ints)

-- ---- over a list of rows
module _ {X : Type 0} (f : X → ℤ) where
  regrouped : (a b c d e : ℤ) → d ≡ (a +ℤ b) +ℤ c → e ≡ (pos 0 +ℤ b) +ℤ c → d ≡ a +ℤ e
  regrouped a b c d e p q = omega (arith, ints)

  sum_from : (a : ℤ) (xs : List X) → fold (λ (b : ℤ) (x : X). b +ℤ f x) a xs ≡ a +ℤ sum_of f xs
  sum_from a [] = omega (arith, ints)
  sum_from a (x ∷ xs) = regrouped a (f x) (sum_of f xs) _ _ (sum_from (a +ℤ f x) xs) (sum_from (pos 0 +ℤ f x) xs)

  pub sum_joined : (g : ℕ → List X) (n : ℕ) → sum_of f (flat_map g (numbers n)) ≡ sum_of (λ i. sum_of f (g i)) (numbers n)
  sum_joined g zero = refl
  sum_joined g (suc n) =
      ap (sum_of f) (flat_map_more g (numbers n) (suc n))
      ∙ fold-append (λ (b : ℤ) (x : X). b +ℤ f x) (pos 0) (flat_map g (numbers n)) (g (suc n))
      ∙ sum_from (sum_of f (flat_map g (numbers n))) (g (suc n))
      ∙ ap (λ a. a +ℤ sum_of f (g (suc n))) (sum_joined g n)
      ∙ sym (sum_more (λ i. sum_of f (g i)) n)

  pub sum_listed : (g : ℕ → X) (n : ℕ) → sum_of f (map g (numbers n)) ≡ sum_of (λ i. f (g i)) (numbers n)
  sum_listed g n = fold-map (λ (b : ℤ) (x : X). b +ℤ f x) g (pos 0) (numbers n)

-- ---- over the rows of a table
module _ {K X : Type 0} {R : K → K → Ordering} (o : IsExact R) where
  entry_at : (f : X → ℤ) (p : K → Bool) (k : K) → ((j : K) → p j ≡ eq_by_cmp R k j) → (es : List (K × X)) → T (is_sorted R es)
      → sum_entries (λ j r. cond (p j) (f r) (pos 0)) es ≡ option_map_or f (find R k es) (pos 0)
  entry_at f p k at [] h = refl
  entry_at f p k at (e ∷ es) h =
      let rest = entry_at f p k at es (second _ _ h) in
      let others : ℤ = sum_entries (λ j r. cond (p j) (f r) (pos 0)) es in
      ap (λ b. cond b (f e.1) (pos 0) +ℤ others) (at e.0)
      ∙ elim (eq_by_cmp R k e.0) as
      (λ b. eq_by_cmp R k e.0 ≡ b → cond b (f e.1) (pos 0) +ℤ others ≡ option_map_or f (cond b (Some e.1) (find R k es)) (pos 0)) [
        | true ↦ λ t. no_others (f e.1) others (rest ∙ ap (λ (w : Option X). option_map_or f w (pos 0)) (absent_after o k e es (first _ _ h) t))
        | false ↦ λ t. later others _ rest
      ] refl
    where
      no_others : (a b : ℤ) → b ≡ pos 0 → a +ℤ b ≡ a
      no_others a b p = omega (arith, ints)

      later : (a b : ℤ) → a ≡ b → pos 0 +ℤ a ≡ b
      later a b p = omega (arith, ints)

  -- the sum of f over the row at k alone is its column
  pub total_at : (f : X → ℤ) (p : K → Bool) (k : K) (m : FinMap R X) → ((j : K) → p j ≡ eq_by_cmp R k j)
      → total (λ j r. cond (p j) (f r) (pos 0)) m ≡ column f m k
  unfolding total
  total_at f p k m at = entry_at f p k at (entries m) (entries_sorted m) ∙ ap (λ (w : Option X). option_map_or f w (pos 0)) (sym (get-entries m k))

module _ {K X : Type 0} where
  entries_both : (f g : K → X → ℤ) (es : List (K × X)) → sum_entries (λ k r. f k r +ℤ g k r) es ≡ sum_entries f es +ℤ sum_entries g es
  entries_both f g [] = refl
  entries_both f g (e ∷ es) = crossed (f e.0 e.1) (g e.0 e.1) (sum_entries f es) (sum_entries g es) _ (entries_both f g es)
    where
      crossed : (a b c d x : ℤ) → x ≡ c +ℤ d → (a +ℤ b) +ℤ x ≡ (a +ℤ c) +ℤ (b +ℤ d)
      crossed a b c d x p = omega (arith, ints)

-- a sum of sums, in the other order
pub total_sums : {K X : Type 0} {R : K → K → Ordering} (f : ℕ → K → X → ℤ) (n : ℕ) (m : FinMap R X)
    → total (λ k r. sum_of (λ i. f i k r) (numbers n)) m ≡ sum_of (λ i. total (f i) m) (numbers n)
unfolding total
total_sums f zero m = entries_zero (entries m)
total_sums f (suc n) m =
    (λ i. sum_entries (λ k r. sum_more (λ j. f j k r) n i) (entries m))
    ∙ entries_both (λ k r. sum_of (λ j. f j k r) (numbers n)) (f (suc n)) (entries m)
    ∙ ap (λ a. a +ℤ sum_entries (f (suc n)) (entries m)) (total_sums f n m)
    ∙ sym (sum_more (λ j. sum_entries (f j) (entries m)) n)

-- One step of a sum in a loop.
use Rattle.std.proofs.Common.{◌≡◌, ℕ, ◌+◌, ◌-◌, ◌<◌, ◌≤◌, ℤ, pos, ◌+ℤ◌, List, [], ◌∷◌, take, get_or, length, sym, ap, ◌∙◌, arith}
use Rattle.std.proofs.lemmas.Int.{ints}
use Rattle.std.proofs.Math.IntN.{+ℤ_idr}
use Rattle.std.proofs.lemmas.List.{take_all}
use Rattle.std.proofs.lemmas.List.Sums.{fold_more}
use Rattle.tables.specs.Maps.{sum_entries, sum_of}

-- over a list, by its index
pub sum_of_more : {X : Type 0} (f : X → ℤ) (xs : List X) (i : ℕ) (x : X) (sum share sum' : ℤ) → i < length xs → x ≡ get_or xs i x → sum ≡ sum_of f (take i xs)
    → share ≡ f x → sum' ≡ sum +ℤ share → sum' ≡ sum_of f (take (i + 1) xs)
sum_of_more f xs i x sum share sum' lt is before one after =
    after ∙ (λ j. before j +ℤ (one ∙ ap f is) j) ∙ sym (fold_more (λ (a : ℤ) (y : _). a +ℤ f y) (pos 0) xs i x lt)

-- at the end, all were passed
pub sum_of_all : {X : Type 0} (f : X → ℤ) (xs ys : List X) (i : ℕ) → length xs ≤ i → xs ≡ ys → sum_of f (take i xs) ≡ sum_of f ys
sum_of_all f xs ys i past same = ap (sum_of f) (take_all i xs past ∙ same)

-- over entries, by those that are left: at first, all
pub sum_entries_none : (sum all : ℤ) → sum ≡ pos 0 → sum +ℤ all ≡ all
sum_entries_none sum all none = omega (arith, ints, none)

-- and one after another
pub sum_entries_more : {K X : Type 0} (f : K → X → ℤ) (all left rest : List (K × X)) (k : K) (r : X) (sum share sum' : ℤ) → left ≡ (k, r) ∷ rest
    → sum +ℤ sum_entries f left ≡ sum_entries f all → share ≡ f k r → sum' ≡ sum +ℤ share → sum' +ℤ sum_entries f rest ≡ sum_entries f all
sum_entries_more f all left rest k r sum share sum' next before one after =
    (λ j. (after ∙ ap (λ s. sum +ℤ s) one) j +ℤ sum_entries f rest) ∙ regrouped sum (f k r) (sum_entries f rest) ∙ ap (λ es. sum +ℤ sum_entries f es) (sym next)
    ∙ before
  where
    regrouped : (a b c : ℤ) → (a +ℤ b) +ℤ c ≡ a +ℤ (b +ℤ c)
    regrouped a b c = omega (arith, ints)

-- at the end, none are left
pub sum_entries_all : {K X : Type 0} (f : K → X → ℤ) (all left : List (K × X)) (sum : ℤ) → left ≡ [] → sum +ℤ sum_entries f left ≡ sum_entries f all
    → sum ≡ sum_entries f all
sum_entries_all f all left sum none before = sym (+ℤ_idr sum) ∙ ap (λ es. sum +ℤ sum_entries f es) (sym none) ∙ before

-- none of those that are passed at first
pub none_passed : (n : ℕ) → 0 ≡ n - n
none_passed n = omega arith

-- The numbers from 1 on, and what is listed for each.
use Rattle.std.proofs.Common.{◌≡◌, ℕ, zero, suc, ◌-◌, ◌≤◌, List, [], ◌∷◌, ◌++◌, map, sym, ap, ◌∙◌, arith, append_assoc, append-nil}
use Rattle.std.specs.List.{flat_map}
use Rattle.std.proofs.lemmas.List.{map-append}
use Rattle.std.proofs.lemmas.List.Concat.{flat_map-append}
use Rattle.population_tables.specs.Plain.{numbers}

-- one number more
numbers_more : (i j : ℕ) → 1 ≤ i → j ≡ i → numbers j ≡ numbers (i - 1) ++ i ∷ []
numbers_more zero j from same = absurd (omega arith)
numbers_more (suc i) j from same =
    let front : suc i - 1 ≡ i = omega arith in
    ap numbers same ∙ ap (λ n. numbers n ++ suc i ∷ []) (sym front)

pub map_more : {X : Type 0} (f : ℕ → X) (xs : List ℕ) (y : ℕ) → map f (xs ++ y ∷ []) ≡ map f xs ++ f y ∷ []
map_more f xs y = map-append f xs (y ∷ [])

pub flat_map_more : {X : Type 0} (f : ℕ → List X) (xs : List ℕ) (y : ℕ) → flat_map f (xs ++ y ∷ []) ≡ flat_map f xs ++ f y
flat_map_more f xs y = flat_map-append f xs (y ∷ []) ∙ ap (λ rest. flat_map f xs ++ rest) (append-nil (f y))

-- a row pushed for the next number
pub rows_more : {X : Type 0} (f : ℕ → X) (i j : ℕ) (old rows : List X) (row : X) → 1 ≤ i → j ≡ i → row ≡ f i → rows ≡ old ++ map f (numbers (i - 1)) → rows
    ++ row ∷ [] ≡ old ++ map f (numbers j)
rows_more f i j old rows row from same is_row before =
    ap (λ xs. xs ++ row ∷ []) before ∙ append_assoc old _ _ ∙ ap (λ r. old ++ (map f (numbers (i - 1)) ++ r ∷ [])) is_row
    ∙ ap (λ xs. old ++ xs) (sym (map_more f (numbers (i - 1)) i) ∙ ap (map f) (sym (numbers_more i j from same)))

-- the rows of the next number, after those of the ones before it
pub flat_rows_more : {X : Type 0} (f : ℕ → List X) (i j : ℕ) → 1 ≤ i → j ≡ i → flat_map f (numbers j) ≡ flat_map f (numbers (i - 1)) ++ f i
flat_rows_more f i j from same = ap (flat_map f) (numbers_more i j from same) ∙ flat_map_more f (numbers (i - 1)) i

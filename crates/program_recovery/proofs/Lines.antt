-- Lines of rows that a look-up found, and those of the numbers from 1 on.
use Rattle.std.proofs.Common.{◌≡◌, ℕ, zero, suc, ◌-◌, ◌≤◌, List, [], ◌∷◌, ◌++◌, Option, sym, ap, ◌∙◌, arith, append_assoc, append-nil}
use Rattle.std.specs.List.{flat_map}
use Rattle.std.specs.Option.{option_map_or}
use Rattle.std.specs.BTreeMap as tree
use Rattle.std.specs.BTreeMap.{BTreeMap}
use Rattle.std.specs.FinMap.{get, from_entries}
use Rattle.std.specs.declared.cmp.Ordering.{Ordering}
use Rattle.std.proofs.lemmas.List.Concat.{flat_map-append}
use Rattle.tables.proofs.Orders.{IsExact}
use Rattle.tables.proofs.Views.{get-view}
use Rattle.population_tables.specs.Plain.{numbers}

-- the line of what was found
pub line_found : {K X : Type 0} {R : K → K → Ordering} (o : IsExact R) (line : X → List ℕ) (m : BTreeMap K X) (k : K) (r : Option X) → r ≡ tree.get R m k
    → option_map_or line r [] ≡ option_map_or line (get (from_entries {R = R} m.entries) k) []
line_found o line m k r e = ap (λ x. option_map_or line x []) (e ∙ sym (get-view o m k))

numbers_more : (i j : ℕ) → 1 ≤ i → j ≡ i → numbers j ≡ numbers (i - 1) ++ i ∷ []
numbers_more zero j from same = absurd (omega arith)
numbers_more (suc i) j from same =
    let front : suc i - 1 ≡ i = omega arith in
    ap numbers same ∙ ap (λ n. numbers n ++ suc i ∷ []) (sym front)

-- the lines of the next number, behind those of the ones before it
pub lines_more : (f : ℕ → List ℕ) (i j : ℕ) (old middle new : List ℕ) → 1 ≤ i → j ≡ i → middle ≡ old ++ flat_map f (numbers (i - 1)) → new ≡ middle ++ f i
    → new ≡ old ++ flat_map f (numbers j)
lines_more f i j old middle new from same before more =
    more ∙ ap (λ text. text ++ f i) before ∙ append_assoc old (flat_map f (numbers (i - 1))) (f i) ∙ ap (λ text. old ++ text) (sym listed)
  where
    listed : flat_map f (numbers j) ≡ flat_map f (numbers (i - 1)) ++ f i
    listed = ap (flat_map f) (numbers_more i j from same) ∙ flat_map-append f (numbers (i - 1)) (i ∷ [])
        ∙ ap (λ rest. flat_map f (numbers (i - 1)) ++ rest) (append-nil (f i))

-- A table by the words of its rows.
use Rattle.std.proofs.Common.{◌≡◌, ℤ, ◌+ℤ◌, ◌&&◌, T, cond, ℕ, List, [], ◌∷◌, map, Some, true, false, refl, sym, ap, ◌∙◌, subst}
use Rattle.std.specs.Option.{option_map}
use Rattle.std.specs.Ordering.{eq_by_cmp, is_lt}
use Rattle.std.specs.FinMap.{FinMap, entries, entries_sorted, entries-from_sorted, from_sorted, get, get-entries, find, is_sorted}
use Rattle.std.specs.FinMap.Entries.{below_all}
use Rattle.std.specs.declared.cmp.Ordering.{Ordering}
use Rattle.tables.specs.Maps.{sum_entries, total}

module _ {K X : Type 0} (g : X → List ℕ) where
  -- the entries, each row by its words
  abbrev pub word_entries : List (K × X) → List (K × List ℕ)
  word_entries es = map (λ (e : K × X). (e.0, g e.1)) es

  sum-words : (f : K → List ℕ → ℤ) (es : List (K × X)) → sum_entries f (word_entries es) ≡ sum_entries (λ k r. f k (g r)) es
  sum-words f [] = refl
  sum-words f (e ∷ es) = ap (λ a. f e.0 (g e.1) +ℤ a) (sum-words f es)

module _ {K X : Type 0} (g : X → List ℕ) (R : K → K → Ordering) where
  below_all-words : (k : K) (es : List (K × X)) → below_all R k (word_entries g es) ≡ below_all R k es
  below_all-words k [] = refl
  below_all-words k (e ∷ es) = ap (λ b. is_lt (R k e.0) && b) (below_all-words k es)

  is_sorted-words : (es : List (K × X)) → is_sorted R (word_entries g es) ≡ is_sorted R es
  is_sorted-words [] = refl
  is_sorted-words (e ∷ es) = λ i. below_all-words e.0 es i && is_sorted-words es i

  find-words : (q : K) (es : List (K × X)) → find R q (word_entries g es) ≡ option_map g (find R q es)
  find-words q [] = refl
  find-words q (e ∷ es) = elim (eq_by_cmp R q e.0) as
      (λ b. cond b (Some (g e.1)) (find R q (word_entries g es)) ≡ option_map g (cond b (Some e.1) (find R q es))) [
        | true ↦ refl
        | false ↦ find-words q es
      ]

module _ {K X : Type 0} (g : X → List ℕ) {R : K → K → Ordering} where
  pub by_words : FinMap R X → FinMap R (List ℕ)
  by_words m = from_sorted (word_entries g (entries m))

  entries-by_words : (m : FinMap R X) → entries (by_words m) ≡ word_entries g (entries m)
  unfolding by_words
  entries-by_words m = entries-from_sorted R _ (subst T (sym (is_sorted-words g R (entries m))) (entries_sorted m))

  pub get-by_words : (m : FinMap R X) (q : K) → get (by_words m) q ≡ option_map g (get m q)
  get-by_words m q = get-entries (by_words m) q ∙ ap (find R q) (entries-by_words m) ∙ find-words g R q (entries m)
      ∙ ap (option_map g) (sym (get-entries m q))

  pub total-by_words : (f : K → List ℕ → ℤ) (m : FinMap R X) → total f (by_words m) ≡ total (λ k r. f k (g r)) m
  unfolding total
  total-by_words f m = ap (sum_entries f) (entries-by_words m) ∙ sum-words g f (entries m)

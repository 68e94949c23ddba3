-- What is collected from a table's rows, one row at a time, is one row more after an insert at a new key.
use Rattle.std.proofs.Common.{◌≡◌, ℤ, ◌+ℤ◌, cond, List, [], ◌∷◌, Some, None, refl, sym, ap, ◌∙◌, arith}
use Rattle.std.proofs.lemmas.Int.{ints}
use Rattle.std.specs.Ordering.{is_eq}
use Rattle.std.specs.FinMap.{FinMap, entries, entries-insert, get, get-entries, insert, find, put}
use Rattle.std.specs.FinMap.Entries.{by_order}
use Rattle.std.specs.declared.cmp.Ordering.{Ordering}
use Rattle.std.specs.declared.cmp.Ordering.TheVariants.{Less, Equal, Greater}
use Rattle.tables.specs.Maps.{sum_entries, total}
use Rattle.tables.proofs.Orders.{IsExact}

collected-put : {K X A : Type 0} (R : K → K → Ordering) (F : List (K × X) → A) (op : K × X → A → A)
    → ((e : K × X) (es : List (K × X)) → F (e ∷ es) ≡ op e (F es)) → ((a b : K × X) (r : A) → op a (op b r) ≡ op b (op a r))
    → (k : K) (v : X) (es : List (K × X)) → find R k es ≡ None → F (put R k v es) ≡ op (k, v) (F es)
collected-put R F op step swap k v [] none = step (k, v) []
collected-put R F op step swap k v (e ∷ es) none =
    elim (R k e.0) as (λ r. cond (is_eq r) (Some e.1) (find R k es) ≡ None → F (by_order r ((k, v) ∷ e ∷ es) ((e.0, v) ∷ es) (e ∷ put R k v es)) ≡ op (k, v)
    (F (e ∷ es))) [
      | Less ↦ λ n. step (k, v) (e ∷ es)
      | Equal ↦ λ n. cc
      | Greater ↦ λ n. step e (put R k v es) ∙ ap (op e) (collected-put R F op step swap k v es n) ∙ swap e (k, v) (F es) ∙ ap (op (k, v)) (sym (step e es))
    ] none

module _ {K X : Type 0} {R : K → K → Ordering} (o : IsExact R) where
  -- each row takes its own step, and the order of the steps doesn't matter
  pub collected-insert : {A : Type 0} (F : List (K × X) → A) (op : K × X → A → A)
      → ((e : K × X) (es : List (K × X)) → F (e ∷ es) ≡ op e (F es)) → ((a b : K × X) (r : A) → op a (op b r) ≡ op b (op a r))
      → (m : FinMap R X) (k : K) (v : X) → get m k ≡ None → F (entries (insert m k v)) ≡ op (k, v) (F (entries m))
  collected-insert F op step swap m k v none =
      ap F (entries-insert o.total m k v) ∙ collected-put R F op step swap k v (entries m) (sym (get-entries m k) ∙ none)

  -- a sum over the rows
  pub total-insert : (f : K → X → ℤ) (m : FinMap R X) (k : K) (v : X) → get m k ≡ None → total f (insert m k v) ≡ f k v +ℤ total f m
  unfolding total
  total-insert f m k v none = collected-insert (sum_entries f) (λ e a. f e.0 e.1 +ℤ a) (λ _ _. refl) (λ a b r. reordered (f a.0 a.1) (f b.0 b.1) r) m k v none
    where
      reordered : (a b c : ℤ) → a +ℤ (b +ℤ c) ≡ b +ℤ (a +ℤ c)
      reordered a b c = omega (arith, ints)

-- UPDATE .. WHERE: what it leaves at a key, and in a sum over all rows.
use Rattle.std.proofs.Common.{◌≡◌, ℤ, pos, ◌+ℤ◌, ◌-ℤ◌, Bool, true, false, cond, T, List, [], ◌∷◌, Option, Some, None, is_some, refl, sym, ap, ◌∙◌, subst, arith}
use Rattle.std.proofs.Common.{◌&&◌}
use Rattle.std.proofs.lemmas.Int.{ints}
use Rattle.std.proofs.lemmas.Option.{same_Some}
use Rattle.std.specs.Option.{option_map, option_map_or}
use Rattle.std.specs.Ordering.{eq_by_cmp, is_lt}
use Rattle.std.specs.Cmp.{eq_by_cmp_equiv}
use Rattle.std.specs.FinMap.{FinMap, entries, entries_sorted, entries-from_sorted, get, get-entries, get-insert, insert, same_map, find, is_sorted}
use Rattle.std.specs.FinMap.Entries.{below_all}
use Rattle.std.specs.declared.cmp.Ordering.{Ordering}
use Rattle.tables.specs.Maps.{sum_entries, map_entries, total, map_rows, update_where, column}
use Rattle.tables.proofs.Orders.{IsExact}
use Rattle.tables.proofs.Entries.{first, second, tied, absent_below}
use Rattle.tables.proofs.Totals.{total-alike}

module _ {K X : Type 0} (R : K → K → Ordering) where
  below_all-map_entries : (g : K → X → X) (k : K) (es : List (K × X)) → below_all R k (map_entries g es) ≡ below_all R k es
  below_all-map_entries g k [] = refl
  below_all-map_entries g k (e ∷ es) = ap (λ b. is_lt (R k e.0) && b) (below_all-map_entries g k es)

  is_sorted-map_entries : (g : K → X → X) (es : List (K × X)) → is_sorted R (map_entries g es) ≡ is_sorted R es
  is_sorted-map_entries g [] = refl
  is_sorted-map_entries g (e ∷ es) = λ i. below_all-map_entries g e.0 es i && is_sorted-map_entries g es i

module _ {K X : Type 0} {R : K → K → Ordering} where
  pub entries-map_rows : (g : K → X → X) (m : FinMap R X) → entries (map_rows g m) ≡ map_entries g (entries m)
  unfolding map_rows
  entries-map_rows g m = entries-from_sorted R _ (subst T (sym (is_sorted-map_entries R g (entries m))) (entries_sorted m))

sum_mapped : {K X : Type 0} (f : K → X → ℤ) (g : K → X → X) (es : List (K × X)) → sum_entries f (map_entries g es) ≡ sum_entries (λ k r. f k (g k r)) es
sum_mapped f g [] = refl
sum_mapped f g (e ∷ es) = ap (λ a. f e.0 (g e.0 e.1) +ℤ a) (sum_mapped f g es)

module _ {K X : Type 0} {R : K → K → Ordering} (o : IsExact R) where
  find-map_entries : (g : K → X → X) (q : K) (es : List (K × X)) → find R q (map_entries g es) ≡ option_map (g q) (find R q es)
  find-map_entries g q [] = refl
  find-map_entries g q (e ∷ es) =
      elim (eq_by_cmp R q e.0) as
      (λ b. eq_by_cmp R q e.0 ≡ b → cond b (Some (g e.0 e.1)) (find R q (map_entries g es)) ≡ option_map (g q) (cond b (Some e.1) (find R q es))) [
        | true ↦ λ t. ap (λ k. Some (g k e.1)) (sym (o.same q e.0 (tied _ t)))
        | false ↦ λ t. find-map_entries g q es
      ] refl

  -- the row at a key
  pub get-map_rows : (g : K → X → X) (m : FinMap R X) (q : K) → get (map_rows g m) q ≡ option_map (g q) (get m q)
  get-map_rows g m q = get-entries (map_rows g m) q ∙ ap (find R q) (entries-map_rows g m) ∙ find-map_entries g q (entries m)
      ∙ sym (ap (option_map (g q)) (get-entries m q))

  -- where no key is k, an update at k changes nothing
  sum_untouched : (f : K → X → ℤ) (p : K → Bool) (g : X → X) (k : K) → ((j : K) → p j ≡ eq_by_cmp R k j) → (es : List (K × X)) → find R k es ≡ None
      → sum_entries f (map_entries (λ j r. cond (p j) (g r) r) es) ≡ sum_entries f es
  sum_untouched f p g k at [] none = refl
  sum_untouched f p g k at (e ∷ es) none =
      elim (eq_by_cmp R k e.0) as (λ b. eq_by_cmp R k e.0 ≡ b → cond b (Some e.1) (find R k es) ≡ None
      → f e.0 (cond (p e.0) (g e.1) e.1) +ℤ sum_entries f (map_entries (λ j r. cond (p j) (g r) r) es) ≡ f e.0 e.1 +ℤ sum_entries f es) [
        | true ↦ λ t n. cc
        | false ↦ λ t n. λ i. f e.0 (cond ((at e.0 ∙ t) i) (g e.1) e.1) +ℤ sum_untouched f p g k at es n i
      ] refl none

  sum_updated : (f : K → X → ℤ) (p : K → Bool) (g : X → X) (k : K) (r : X) → ((j : K) → p j ≡ eq_by_cmp R k j) → (es : List (K × X)) → T (is_sorted R es)
      → find R k es ≡ Some r
      → sum_entries f (map_entries (λ j s. cond (p j) (g s) s) es) ≡ sum_entries f es +ℤ (f k (g r) -ℤ f k r)
  sum_updated f p g k r at [] h found = cc
  sum_updated f p g k r at (e ∷ es) h found =
      elim (eq_by_cmp R k e.0) as (λ b. eq_by_cmp R k e.0 ≡ b → cond b (Some e.1) (find R k es) ≡ Some r
      → f e.0 (cond (p e.0) (g e.1) e.1) +ℤ sum_entries f (map_entries (λ j s. cond (p j) (g s) s) es) ≡ (f e.0 e.1 +ℤ sum_entries f es)
      +ℤ (f k (g r) -ℤ f k r)) [
        | true ↦ λ t n.
            let key : k ≡ e.0 = o.same k e.0 (tied _ t) in
            let row : e.1 ≡ r = same_Some _ _ n in
            let rest = sum_untouched f p g k at es (subst (λ j. find R j es ≡ None) (sym key) (absent_below o e.0 es (first _ _ h))) in
            let here : f e.0 (cond (p e.0) (g e.1) e.1) ≡ f k (g r) = (λ i. f e.0 (cond ((at e.0 ∙ t) i) (g e.1) e.1)) ∙ (λ i. f (sym key i) (g (row i))) in
            let was : f e.0 e.1 ≡ f k r = (λ i. f (sym key i) (row i)) in
            let a : ℤ = f e.0 e.1 in
            let b : ℤ = f e.0 (cond (p e.0) (g e.1) e.1) in
            let c : ℤ = sum_entries f (map_entries (λ j s. cond (p j) (g s) s) es) in
            let d : ℤ = sum_entries f es in
            let u : ℤ = f k (g r) in
            let v : ℤ = f k r in
            joined b c a d u v here was rest
        | false ↦ λ t n.
            let rest = sum_updated f p g k r at es (second _ _ h) n in
            (λ i. f e.0 (cond ((at e.0 ∙ t) i) (g e.1) e.1) +ℤ rest i) ∙ regrouped (f e.0 e.1) (sum_entries f es) (f k (g r) -ℤ f k r)
      ] refl found
    where
      joined : (b c a d u v : ℤ) → b ≡ u → a ≡ v → c ≡ d → b +ℤ c ≡ (a +ℤ d) +ℤ (u -ℤ v)
      joined b c a d u v p q r = omega (arith, ints)

      regrouped : (a b c : ℤ) → a +ℤ (b +ℤ c) ≡ (a +ℤ b) +ℤ c
      regrouped a b c = omega (arith, ints)

  -- a sum over all rows after an update of the one row at k
  pub total-update_where : (f : K → X → ℤ) (p : K → Bool) (g : X → X) (k : K) (r : X) (m : FinMap R X) → ((j : K) → p j ≡ eq_by_cmp R k j) → get m k ≡ Some r
      → total f (update_where p g m) ≡ total f m +ℤ (f k (g r) -ℤ f k r)
  unfolding total
  total-update_where f p g k r m at found =
      ap (sum_entries f) (entries-map_rows (λ j s. cond (p j) (g s) s) m)
      ∙ sum_updated f p g k r at (entries m) (entries_sorted m) (sym (get-entries m k) ∙ found)

  -- a sum after an update that changes no summand
  pub total-kept : (f : K → X → ℤ) (g : K → X → X) (m : FinMap R X) → ((k : K) (r : X) → f k (g k r) ≡ f k r) → total f (map_rows g m) ≡ total f m
  unfolding total
  total-kept f g m same = ap (sum_entries f) (entries-map_rows g m) ∙ sum_mapped f g (entries m) ∙ total-alike o (λ k r. f k (g k r)) f m (λ k r _. same k r)

  -- a column after an update
  pub column-update_where : (f : X → ℤ) (p : K → Bool) (g : X → X) (m : FinMap R X) (q : K) (r : X) → get m q ≡ Some r
      → column f (update_where p g m) q ≡ f (cond (p q) (g r) r)
  column-update_where f p g m q r found =
      ap (λ (w : Option X). option_map_or f w (pos 0)) (get-map_rows (λ j s. cond (p j) (g s) s) m q ∙ ap (option_map (λ s. cond (p q) (g s) s)) found)

  -- an update keeps of a row what it keeps of each row that it touches
  pub kept-update_where : {Y : Type 0} (p : K → Bool) (g : X → X) (f : Option X → Y) (m : FinMap R X) (q : K)
      → (p q ≡ true → (r : X) → f (Some (g r)) ≡ f (Some r)) → f (get (update_where p g m) q) ≡ f (get m q)
  kept-update_where p g f m q same = ap f (get-map_rows (λ j s. cond (p j) (g s) s) m q) ∙ go (get m q) (p q) same
    where
      go : (w : Option X) (b : Bool) → (b ≡ true → (r : X) → f (Some (g r)) ≡ f (Some r)) → f (option_map (λ s. cond b (g s) s) w) ≡ f w
      go None b h = refl
      go (Some r) true h = h refl r
      go (Some r) false h = refl

  -- an update keeps which keys have rows
  pub is_some-map_rows : (g : K → X → X) (m : FinMap R X) (q : K) → is_some (get (map_rows g m) q) ≡ is_some (get m q)
  is_some-map_rows g m q = ap is_some (get-map_rows g m q) ∙ kept (get m q)
    where
      kept : (w : Option X) → is_some (option_map (g q) w) ≡ is_some w
      kept None = refl
      kept (Some r) = refl

  -- the row that an updated row was
  pub row_before : (g : K → X → X) (m : FinMap R X) (q : K) (s : X) → get (map_rows g m) q ≡ Some s → (r : X) × (get m q ≡ Some r) × (s ≡ g q r)
  row_before g m q s found = before (get m q) refl (sym (get-map_rows g m q) ∙ found)
    where
      before : (w : Option X) → get m q ≡ w → option_map (g q) w ≡ Some s → (r : X) × (get m q ≡ Some r) × (s ≡ g q r)
      before None is e = cc
      before (Some r) is e = (r, is, sym (same_Some _ _ e))

  -- an update of no row changes nothing
  pub update_where-none : (p : K → Bool) (g : X → X) (m : FinMap R X) → ((k : K) → p k ≡ false) → update_where p g m ≡ m
  update_where-none p g m none = same_map o.total o.same _ _ (λ q.
      get-map_rows (λ j s. cond (p j) (g s) s) m q ∙ ap (λ b. option_map (λ s. cond b (g s) s) (get m q)) (none q) ∙ unchanged (get m q))
    where
      unchanged : (w : Option X) → option_map (λ s. s) w ≡ w
      unchanged None = refl
      unchanged (Some s) = refl

  -- an update of the one row at k puts its new row there
  pub update_where-insert : (p : K → Bool) (g : X → X) (k : K) (r : X) (m : FinMap R X) → ((j : K) → p j ≡ eq_by_cmp R k j) → get m k ≡ Some r
      → update_where p g m ≡ insert m k (g r)
  update_where-insert p g k r m at found = same_map o.total o.same _ _ (λ q.
      get-map_rows (λ j s. cond (p j) (g s) s) m q ∙ put q
      ∙ ap (λ b. cond b (Some (g r)) (get m q)) ((eq_by_cmp_equiv o.total).symm k q) ∙ sym (get-insert o.total m k (g r) q))
    where
      unchanged : (w : Option X) → option_map (λ s. s) w ≡ w
      unchanged None = refl
      unchanged (Some s) = refl

      put : (q : K) → option_map (λ s. cond (p q) (g s) s) (get m q) ≡ cond (eq_by_cmp R k q) (Some (g r)) (get m q)
      put q =
          ap (λ b. option_map (λ s. cond b (g s) s) (get m q)) (at q)
          ∙ elim (eq_by_cmp R k q) as (λ b. eq_by_cmp R k q ≡ b → option_map (λ s. cond b (g s) s) (get m q) ≡ cond b (Some (g r)) (get m q)) [
            | true ↦ λ t. ap (option_map g) (ap (get m) (sym (o.same k q (tied _ t))) ∙ found)
            | false ↦ λ t. unchanged (get m q)
          ] refl

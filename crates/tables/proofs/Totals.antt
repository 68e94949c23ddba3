-- A sum over a table: by the entries of its `BTreeMap`, and by what each row adds.
use Rattle.std.proofs.Common.{◌≡◌, ℤ, pos, ◌+ℤ◌, T, Bool, true, false, ◌&&◌, List, [], ◌∷◌, Some, refl, sym, ap, ◌∙◌, subst}
use Rattle.std.specs.Ordering.{is_lt}
use Rattle.std.specs.List.{AllByRecursion}
use Rattle.std.specs.List.Sorted.{IsStrictlySortedBy}
use Rattle.std.specs.Map.{keys_of}
use Rattle.std.specs.BTreeMap as tree
use Rattle.std.specs.BTreeMap.{BTreeMap}
use Rattle.std.specs.FinMap.{FinMap, entries, entries_sorted, from_entries, from_sorted, entries-from_sorted, get-entries, get-from_entries, get-from_sorted}
use Rattle.std.specs.FinMap.{same_map, find, is_sorted}
use Rattle.std.specs.FinMap.Entries.{below_all}
use Rattle.std.specs.declared.cmp.Ordering.{Ordering}
use Rattle.std.specs.declared.cmp.Ordering.TheVariants.{Less}
use Rattle.tables.specs.Maps.{sum_entries, total, EachRow}
use Rattle.tables.proofs.Orders.{IsExact}
use Rattle.tables.proofs.Entries.{first, second, found_first, found_after}

both : (a b : Bool) → T a → T b → T (a && b)
both true b p q = q
both false b p q = p

module _ {K X : Type 0} (R : K → K → Ordering) where
  below : (k : K) (es : List (K × X)) → AllByRecursion (λ y. R k y ≡ Less) (keys_of es) → T (below_all R k es)
  below k [] h = tt
  below k (e ∷ es) h = both _ _ (subst (λ (r : Ordering). T (is_lt r)) (sym h.0) tt) (below k es h.1)

  pub sorted : (es : List (K × X)) → IsStrictlySortedBy R (keys_of es) → T (is_sorted R es)
  unfolding IsStrictlySortedBy
  sorted [] h = tt
  sorted (e ∷ es) h = both _ _ (below e.0 es h.0) (sorted es h.1)

pub entries_zero : {K X : Type 0} (es : List (K × X)) → sum_entries {K = K} {X = X} (λ _ _. pos 0) es ≡ pos 0
entries_zero [] = refl
entries_zero (e ∷ es) = ap (λ a. pos 0 +ℤ a) (entries_zero es)

module _ {K X : Type 0} {R : K → K → Ordering} (o : IsExact R) where
  pub entries_of_sorted : (es : List (K × X)) → T (is_sorted R es) → entries (from_entries {R = R} es) ≡ es
  entries_of_sorted es s =
      ap entries (same_map o.total o.same (from_entries es) (from_sorted es) (λ q. get-from_entries o.total es q ∙ sym (get-from_sorted R es q s)))
      ∙ entries-from_sorted R es s

  pub entries-view : (m : BTreeMap K X) → tree.IsOrdered R m → entries (from_entries {R = R} m.entries) ≡ m.entries
  entries-view m h = entries_of_sorted m.entries (sorted R m.entries h)

  pub total-view : (f : K → X → ℤ) (m : BTreeMap K X) → tree.IsOrdered R m → total f (from_entries {R = R} m.entries) ≡ sum_entries f m.entries
  unfolding total
  total-view f m h = ap (sum_entries f) (entries-view m h)

  entries_alike : (f g : K → X → ℤ) (es : List (K × X)) → T (is_sorted R es) → ((k : K) (r : X) → find R k es ≡ Some r → f k r ≡ g k r)
      → sum_entries f es ≡ sum_entries g es
  entries_alike f g [] h same = refl
  entries_alike f g (e ∷ es) h same =
      let here : f e.0 e.1 ≡ g e.0 e.1 = same e.0 e.1 (found_first o e es) in
      let rest : sum_entries f es ≡ sum_entries g es = entries_alike f g es (second _ _ h) (λ k r found. same k r (found_after o k r e es (first _ _ h) found))
      in
      λ i. here i +ℤ rest i

  -- sums of what is the same at each row
  pub total-alike : (f g : K → X → ℤ) (m : FinMap R X) → EachRow (λ k r. f k r ≡ g k r) m → total f m ≡ total g m
  unfolding total
  total-alike f g m same = entries_alike f g (entries m) (entries_sorted m) (λ k r found. same k r (get-entries m k ∙ found))

  -- each row adds 0
  pub total-zero : (f : K → X → ℤ) (m : FinMap R X) → EachRow (λ k r. f k r ≡ pos 0) m → total f m ≡ pos 0
  unfolding total
  total-zero f m none = total-alike f (λ _ _. pos 0) m none ∙ entries_zero (entries m)

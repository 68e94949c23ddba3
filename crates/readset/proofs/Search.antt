-- The places of record numbers: what a search among entries finds.
use Rattle.std.proofs.Common.{◌≡◌, ℕ, zero, suc, ◌+◌, ◌-◌, ◌<◌, ◌≤◌, List, [], ◌∷◌, Some, None, Result, Ok, Err, inl, inr, length, get_or, refl, sym, ap, ◌∙◌, subst, arith}
use Rattle.std.specs.Ordering.{nat_cmp, is_lt, match_ordering, ordering_index}
use Rattle.std.specs.declared.cmp.Ordering.{Ordering}
use Rattle.std.specs.declared.cmp.Ordering.TheVariants.{Less, Equal, Greater}
use Rattle.std.specs.List.{slice_get}
use Rattle.std.specs.List.Sorted.{IsStrictlySortedBy, IsNonDecreasingBy, IsSearchInRange, IsBinarySearchResult}
use Rattle.std.specs.Map.{keys_of}
use Rattle.std.specs.Cmp.{nat_cmp_is}
use Rattle.std.proofs.lemmas.Bool.{cases_lt}
use Rattle.std.proofs.lemmas.Cmp.{ranked, nat_cmp_total}
use Rattle.std.proofs.lemmas.List.{get_or-map}
use Rattle.std.proofs.lemmas.Option.{slice_get-get_or, get_or_from_slice_get}
use Rattle.std.proofs.lemmas.List.Sorted.{searchable_from_sorted}
use Rattle.std.proofs.lemmas.Map.Entries.{length-keys_of}
use Rattle.std.proofs.lemmas.Map.Keys.{below_from_sorted, sorted_tail}
use Rattle.readset.specs.Places.{place, one_further}

-- how two numbers compare
pub less : (n m : ℕ) → n < m → nat_cmp n m ≡ Less
less n m h = sym (nat_cmp_is n m Less h)

equal : (n m : ℕ) → n ≡ m → nat_cmp n m ≡ Equal
equal n m h = sym (nat_cmp_is n m Equal h)

pub greater : (n m : ℕ) → m < n → nat_cmp n m ≡ Greater
greater n m h = sym (nat_cmp_is n m Greater h)

module _ {X : Type 0} where
  pub step : (n : ℕ) (e : ℕ × X) (es : List (ℕ × X)) (o : Ordering) → nat_cmp n e.0 ≡ o
      → place (e ∷ es) n ≡ match_ordering o (Err 0) (Ok 0) (one_further (place es n))
  step n e es o h = ap (λ o. match_ordering o (Err 0) (Ok 0) (one_further (place es n))) h

  -- the numbers rise
  rise : (es : List (ℕ × X)) → IsStrictlySortedBy nat_cmp (keys_of es) → (i j : ℕ) (d : ℕ × X) → i < j → j < length es → (get_or es i d).0 < (get_or es j d).0
  rise es sorted i j d lt inside =
      let key = λ (e : ℕ × X). e.0 in
      let below = below_from_sorted (keys_of es) i j 0 sorted lt (subst (λ n. j < n) (sym (length-keys_of es)) inside) in
      subst (λ k. k < (get_or es j d).0) (get_or-map key es i d 0 (omega (arith, lt, inside)))
      (subst (λ k. get_or (keys_of es) i 0 < k) (get_or-map key es j d 0 inside) below)

  -- an entry of this number is its place
  found_place : (n : ℕ) (es : List (ℕ × X)) (i : ℕ) → IsStrictlySortedBy nat_cmp (keys_of es) → i < length es → ((d : ℕ × X) → (get_or es i d).0 ≡ n)
      → place es n ≡ Ok i
  found_place n [] i sorted inside at = absurd (omega (arith, inside))
  found_place n (e ∷ es) zero sorted inside at = step n e es Equal (equal n e.0 (sym (at e)))
  found_place n (e ∷ es) (suc i) sorted inside at =
      let below = rise (e ∷ es) sorted 0 (suc i) e (omega arith) inside in
      step n e es Greater (greater n e.0 (subst (λ k. e.0 < k) (at e) below))
      ∙ ap one_further (found_place n es i (sorted_tail nat_cmp e.0 (keys_of es) sorted) (omega (arith, inside)) at)

  -- a gap between lesser numbers and greater ones is the place
  gap_place : (n : ℕ) (es : List (ℕ × X)) (i : ℕ) → i ≤ length es → ((k : ℕ) (d : ℕ × X) → k < i → (get_or es k d).0 < n)
      → ((k : ℕ) (d : ℕ × X) → i ≤ k → k < length es → n < (get_or es k d).0) → place es n ≡ Err i
  gap_place n [] zero inside below above = refl
  gap_place n [] (suc i) inside below above = absurd (omega (arith, inside))
  gap_place n (e ∷ es) zero inside below above = step n e es Less (less n e.0 (above 0 e (omega arith) (omega arith)))
  gap_place n (e ∷ es) (suc i) inside below above =
      step n e es Greater (greater n e.0 (below 0 e (omega arith)))
      ∙ ap one_further (gap_place n es i (omega (arith, inside)) (λ k d lt. below (suc k) d (omega (arith, lt)))
      (λ k d le lt. above (suc k) d (omega (arith, le)) (omega (arith, lt))))

  -- so a binary search finds the place
  comparisons_rise : (n : ℕ) (es : List (ℕ × X)) → IsStrictlySortedBy nat_cmp (keys_of es) → IsNonDecreasingBy (λ e. ordering_index (nat_cmp e.0 n)) es
  comparisons_rise n es sorted = searchable_from_sorted nat_cmp_total (λ e. e.0) es n
      (λ k d _ inside. ap is_lt (greater _ _ (rise es sorted k (k + 1) d (omega arith) inside)))

  pub searched : (n : ℕ) (es : List (ℕ × X)) (r : Result ℕ ℕ) → IsStrictlySortedBy nat_cmp (keys_of es) → IsSearchInRange r (length es)
      → IsBinarySearchResult (λ e. nat_cmp e.0 n) es r → r ≡ place es n
  searched n es (Ok i) sorted inside at = sym (found_place n es i sorted inside (λ d. ranked _ n _ (sym (at d))))
  searched n es (Err i) sorted inside parts =
      let p = parts (comparisons_rise n es sorted) in
      sym (gap_place n es i inside (λ k d lt. ranked _ n _ (sym (p.0 k d (omega arith) lt))) (λ k d le lt. ranked _ n _ (sym (p.1 k d le lt))))

  -- the place of a number above the last one is behind it
  pub place_above : (n : ℕ) (es : List (ℕ × X)) (last : ℕ × X) → IsStrictlySortedBy nat_cmp (keys_of es) → slice_get es (length es - 1) ≡ Some last
      → last.0 < n → place es n ≡ Err (length es)
  place_above n es last sorted is above =
      let at_end : (d : ℕ × X) → (get_or es (length es - 1) d).0 < n =
      λ d. subst (λ (e : ℕ × X). e.0 < n) (sym (get_or_from_slice_get es (length es - 1) last d is)) above in
      gap_place n es (length es) (omega arith)
      (λ k d lt. elim (cases_lt k (length es - 1)) [
        | inl before ↦ omega (arith, at_end d, rise es sorted k (length es - 1) d before (omega (arith, lt)))
        | inr last_one ↦ subst (λ i. (get_or es i d).0 < n) {x = length es - 1} (omega (arith, lt, last_one)) (at_end d)
      ])
      (λ k d le lt. absurd (omega (arith, le, lt)))

  -- and of a number where there is none the first
  pub place_first : (n : ℕ) (es : List (ℕ × X)) → slice_get es (length es - 1) ≡ None → place es n ≡ Err 0
  place_first n [] none = refl
  place_first n (e ∷ es) none = absurd (none_some _ (sym none ∙ slice_get-get_or (e ∷ es) (length (e ∷ es) - 1) e (omega arith)))
    where
      none_some : (e : ℕ × X) → None ≡ Some e → ⊥
      none_some e h = cc

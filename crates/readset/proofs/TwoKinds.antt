-- Entries of narrow records with those of wide ones behind them: a look-up among them, and one entry more.
use Rattle.std.proofs.Common.{◌≡◌, ℕ, ◌+◌, ◌<◌, ◌≤◌, Bool, true, false, cond, List, [], ◌∷◌, ◌++◌, Option, Some, None, All, inl, inr, map, length, get_or, refl, sym, ap, ◌∙◌, subst, arith}
use Rattle.std.specs.Ordering.{nat_cmp, is_eq, match_ordering}
use Rattle.std.specs.declared.cmp.Ordering.TheVariants.{Less, Equal, Greater}
use Rattle.std.specs.Map.{keys_of, lookup}
use Rattle.std.specs.BTreeMap.{is_at, insert_entry}
use Rattle.std.specs.List.Sorted.{IsStrictlySortedBy}
use Rattle.std.specs.Option.{option_map}
use Rattle.std.proofs.lemmas.Bool.{cases_lt}
use Rattle.std.proofs.lemmas.Option.{same_Some}
use Rattle.std.proofs.lemmas.List.{get_or-append-add, get_or_append_left, length-append}
use Rattle.std.proofs.lemmas.List.Elements.{All-head, All-tail, All-nil}
use Rattle.std.proofs.lemmas.Map.Entries.{lookup_tail}
use Rattle.readset.specs.Beside.{AreBeside}
use Rattle.readset.proofs.Entries.{each_found, none_ordered}
use Rattle.readset.proofs.Placed.{all_put, ordered_put}
use Rattle.readset.proofs.Search.{less, greater}

module _ {X : Type 0} where
  abbrev pub find : ℕ → List (ℕ × X) → Option X
  find n es = lookup (is_at (nat_cmp n)) es

  -- a look-up in two lists in a row
  pub found_first : (t : ℕ → Bool) (xs ys : List (ℕ × X)) (x : X) → lookup t xs ≡ Some x → lookup t (xs ++ ys) ≡ Some x
  found_first t [] ys x e = absurd cc
  found_first t (e ∷ xs) ys x found =
      elim (t e.0) as (λ b. cond b (Some e.1) (lookup t xs) ≡ Some x → cond b (Some e.1) (lookup t (xs ++ ys)) ≡ Some x) [
        | true ↦ λ is. is
        | false ↦ λ is. found_first t xs ys x is
      ] found

  pub found_behind : (t : ℕ → Bool) (xs ys : List (ℕ × X)) → lookup t xs ≡ None → lookup t (xs ++ ys) ≡ lookup t ys
  found_behind t [] ys none = refl
  found_behind t (e ∷ xs) ys none =
      elim (t e.0) as (λ b. cond b (Some e.1) (lookup t xs) ≡ None → cond b (Some e.1) (lookup t (xs ++ ys)) ≡ lookup t ys) [
        | true ↦ λ is. absurd cc
        | false ↦ λ is. found_behind t xs ys is
      ] none

  -- what is so of each of both lists
  pub all_first : (P : ℕ × X → Type 0) (xs ys : List (ℕ × X)) → All P (xs ++ ys) → All P xs
  all_first P xs ys all k d inside =
      let long = length-append xs ys in
      subst P (get_or_append_left xs ys d k inside) (all k d (omega (arith, inside, long)))

  pub all_behind : (P : ℕ × X → Type 0) (xs ys : List (ℕ × X)) → All P (xs ++ ys) → All P ys
  all_behind P xs ys all k d inside =
      let long = length-append xs ys in
      subst P (get_or-append-add xs ys k d) (all (length xs + k) d (omega (arith, inside, long)))

  -- no entry of a number that is below all, or above all
  pub none_below : (n : ℕ) (ys : List (ℕ × X)) → All (λ e. n < e.0) ys → find n ys ≡ None
  none_below n [] all = refl
  none_below n (y ∷ ys) all =
      lookup_tail (is_at (nat_cmp n)) y ys (ap is_eq (less n y.0 (All-head (λ (e : ℕ × X). n < e.0) y ys all)))
      ∙ none_below n ys (All-tail (λ (e : ℕ × X). n < e.0) y ys all)

  pub none_above : (n : ℕ) (xs : List (ℕ × X)) → All (λ e. e.0 < n) xs → find n xs ≡ None
  none_above n [] all = refl
  none_above n (x ∷ xs) all =
      lookup_tail (is_at (nat_cmp n)) x xs (ap is_eq (greater n x.0 (All-head (λ (e : ℕ × X). e.0 < n) x xs all)))
      ∙ none_above n xs (All-tail (λ (e : ℕ × X). e.0 < n) x xs all)

  -- an entry more in the first list, below all of the second, and in the second, above all of the first
  pub put_first : (n : ℕ) (v : X) (xs ys : List (ℕ × X)) → All (λ e. n < e.0) ys
      → insert_entry nat_cmp (xs ++ ys) n v ≡ insert_entry nat_cmp xs n v ++ ys
  put_first n v [] [] all = refl
  put_first n v [] (y ∷ ys) all =
      ap (λ o. match_ordering o ((n, v) ∷ y ∷ ys) ((y.0, v) ∷ ys) (y ∷ insert_entry nat_cmp ys n v))
      (less n y.0 (All-head (λ (e : ℕ × X). n < e.0) y ys all))
  put_first n v (x ∷ xs) ys all =
      elim (nat_cmp n x.0) as (λ o. match_ordering o ((n, v) ∷ x ∷ xs ++ ys) ((x.0, v) ∷ (xs ++ ys)) (x ∷ insert_entry nat_cmp (xs ++ ys) n v)
      ≡ match_ordering o ((n, v) ∷ x ∷ xs) ((x.0, v) ∷ xs) (x ∷ insert_entry nat_cmp xs n v) ++ ys) [
        | Less ↦ refl
        | Equal ↦ refl
        | Greater ↦ ap (λ (es : List (ℕ × X)). x ∷ es) (put_first n v xs ys all)
      ]

  pub put_behind : (n : ℕ) (v : X) (xs ys : List (ℕ × X)) → All (λ e. e.0 < n) xs
      → insert_entry nat_cmp (xs ++ ys) n v ≡ xs ++ insert_entry nat_cmp ys n v
  put_behind n v [] ys all = refl
  put_behind n v (x ∷ xs) ys all =
      ap (λ o. match_ordering o ((n, v) ∷ x ∷ xs ++ ys) ((x.0, v) ∷ (xs ++ ys)) (x ∷ insert_entry nat_cmp (xs ++ ys) n v))
      (greater n x.0 (All-head (λ (e : ℕ × X). e.0 < n) x xs all))
      ∙ ap (λ (es : List (ℕ × X)). x ∷ es) (put_behind n v xs ys (All-tail (λ (e : ℕ × X). e.0 < n) x xs all))

  -- what is so of each entry's value is so of one that is found
  pub value_found : (P : X → Type 0) (t : ℕ → Bool) (es : List (ℕ × X)) (x : X) → All (λ e. P e.1) es → lookup t es ≡ Some x → P x
  value_found P t [] x all e = absurd cc
  value_found P t (e ∷ es) x all found =
      elim (t e.0) as (λ b. cond b (Some e.1) (lookup t es) ≡ Some x → P x) [
        | true ↦ λ is. subst P (same_Some e.1 x is) (All-head (λ (e : ℕ × X). P e.1) e es all)
        | false ↦ λ is. value_found P t es x (All-tail (λ (e : ℕ × X). P e.1) e es all) is
      ] found

-- entries whose values are told of otherwise
module _ {Y X : Type 0} (f : Y → X) where
  abbrev pub told : ℕ × Y → ℕ × X
  told e = (e.0, f e.1)

  pub find-told : (n : ℕ) (es : List (ℕ × Y)) → find n (map told es) ≡ option_map f (find n es)
  find-told n [] = refl
  find-told n (e ∷ es) =
      elim (is_eq (nat_cmp n e.0)) as (λ b. cond b (Some (f e.1)) (find n (map told es)) ≡ option_map f (cond b (Some e.1) (find n es))) [
        | true ↦ refl
        | false ↦ find-told n es
      ]

  pub put-told : (n : ℕ) (v : Y) (es : List (ℕ × Y)) → map told (insert_entry nat_cmp es n v) ≡ insert_entry nat_cmp (map told es) n (f v)
  put-told n v [] = refl
  put-told n v (e ∷ es) =
      elim (nat_cmp n e.0) as (λ o. map told (match_ordering o ((n, v) ∷ e ∷ es) ((e.0, v) ∷ es) (e ∷ insert_entry nat_cmp es n v))
      ≡ match_ordering o ((n, f v) ∷ map told (e ∷ es)) ((e.0, f v) ∷ map told es) (told e ∷ insert_entry nat_cmp (map told es) n (f v))) [
        | Less ↦ refl
        | Equal ↦ refl
        | Greater ↦ ap (λ (l : List (ℕ × X)). told e ∷ l) (put-told n v es)
      ]

module _ {X : Type 0} (IsLow IsHigh : X → Type 0) where
  -- none at first
  pub none_beside : (xs ys : List (ℕ × X)) → xs ≡ [] → ys ≡ [] → AreBeside IsLow IsHigh xs ys
  none_beside xs ys no_xs no_ys = subst (λ (p : List (ℕ × X) × List (ℕ × X)). AreBeside IsLow IsHigh p.0 p.1) (λ i. (sym no_xs i, sym no_ys i))
      (record { ordered = none_ordered X; low = All-nil (λ (e : ℕ × X). IsLow e.1); high = All-nil (λ (e : ℕ × X). IsHigh e.1) })

  module _ (xs ys : List (ℕ × X)) (b : AreBeside IsLow IsHigh xs ys) (n : ℕ) where
    -- a number below all that are wide
    module _ (below : (m : ℕ) (x : X) → find m (xs ++ ys) ≡ Some x → IsHigh x → n < m) where
      pub all_high : All (λ e. n < e.0) ys
      all_high k d inside = below (get_or ys k d).0 (get_or ys k d).1
          (all_behind (λ e. find e.0 (xs ++ ys) ≡ Some e.1) xs ys (each_found (xs ++ ys) b.ordered) k d inside) (b.high k d inside)

      pub absent_low : find n xs ≡ None → find n (xs ++ ys) ≡ None
      absent_low none = found_behind (is_at (nat_cmp n)) xs ys none ∙ none_below n ys all_high

      pub put_low : (v : X) → IsLow v → AreBeside IsLow IsHigh (insert_entry nat_cmp xs n v) ys
      put_low v low = record {
        ordered = subst (λ (es : List (ℕ × X)). IsStrictlySortedBy nat_cmp (keys_of es)) (put_first n v xs ys all_high)
            (ordered_put n v (xs ++ ys) b.ordered);
        low = all_put IsLow n v xs low b.low;
        high = b.high;
      }

    -- a number above all that are narrow
    module _ (above : (m : ℕ) (x : X) → find m (xs ++ ys) ≡ Some x → IsLow x → m < n) where
      pub all_low : All (λ e. e.0 < n) xs
      all_low k d inside = above (get_or xs k d).0 (get_or xs k d).1
          (all_first (λ e. find e.0 (xs ++ ys) ≡ Some e.1) xs ys (each_found (xs ++ ys) b.ordered) k d inside) (b.low k d inside)

      pub found_high : find n (xs ++ ys) ≡ find n ys
      found_high = found_behind (is_at (nat_cmp n)) xs ys (none_above n xs all_low)

      pub put_high : (v : X) → IsHigh v → AreBeside IsLow IsHigh xs (insert_entry nat_cmp ys n v)
      put_high v high = record {
        ordered = subst (λ (es : List (ℕ × X)). IsStrictlySortedBy nat_cmp (keys_of es)) (put_behind n v xs ys all_low)
            (ordered_put n v (xs ++ ys) b.ordered);
        low = b.low;
        high = all_put IsHigh n v ys high b.high;
      }

  -- where entries are of the kind that their number says
  module _ (first : ℕ) (es : List (ℕ × X)) (apart : (x : X) → IsLow x → IsHigh x → ⊥)
      (kinds : (m : ℕ) (x : X) → find m es ≡ Some x → (m < first → IsLow x) × (first ≤ m → IsHigh x)) (n : ℕ) where
    pub below_wide : n < first → (m : ℕ) (x : X) → find m es ≡ Some x → IsHigh x → n < m
    below_wide small m x found high = elim (cases_lt m first) [
      | inl before ↦ absurd (apart x ((kinds m x found).0 before) high)
      | inr behind ↦ omega (arith, small, behind)
    ]

    pub above_narrow : first ≤ n → (m : ℕ) (x : X) → find m es ≡ Some x → IsLow x → m < n
    above_narrow large m x found low = elim (cases_lt m first) [
      | inl before ↦ omega (arith, large, before)
      | inr behind ↦ absurd (apart x low ((kinds m x found).1 behind))
    ]

-- What entries in the order of their numbers are after a write at a number's place.
use Rattle.std.proofs.Common.{◌≡◌, ℕ, suc, ◌<◌, ◌≤◌, All, List, [], ◌∷◌, Some, None, Result, Ok, Err, is_ok, true≢false, length, get_or, set, refl, sym, ap, ◌∙◌, subst, arith}
use Rattle.std.specs.Ordering.{nat_cmp, is_eq, match_ordering, ordering_reverse}
use Rattle.std.specs.declared.cmp.Ordering.{Ordering}
use Rattle.std.specs.declared.cmp.Ordering.TheVariants.{Less, Equal, Greater}
use Rattle.std.specs.List.{AllByRecursion, insert}
use Rattle.std.specs.List.Sorted.{IsStrictlySortedBy}
use Rattle.std.specs.Map.{keys_of, lookup}
use Rattle.std.specs.BTreeMap.{is_at, insert_entry}
use Rattle.std.proofs.lemmas.Cmp.{nat_cmp_total}
use Rattle.std.proofs.lemmas.Option.{same_Some}
use Rattle.std.proofs.lemmas.List.Elements.{All-cons, All-head, All-tail}
use Rattle.std.proofs.lemmas.Map.Entries.{lookup_head, lookup_tail, lookup_at_gap}
use Rattle.std.proofs.lemmas.Map.Keys.{sorted_tail}
use Rattle.readset.specs.Places.{place, one_further}
use Rattle.readset.proofs.Numbers.{same_number}
use Rattle.readset.proofs.Search.{step}

-- each answer of a comparison
by_ordering : {P : Type 0} (o : Ordering) → (o ≡ Less → P) → (o ≡ Equal → P) → (o ≡ Greater → P) → P
by_ordering Less a b c = a refl
by_ordering Equal a b c = b refl
by_ordering Greater a b c = c refl

-- a place, as a number
abbrev at : Result ℕ ℕ → ℕ
at (Ok i) = i
at (Err i) = i

ok_further : (r : Result ℕ ℕ) (i : ℕ) → one_further r ≡ Ok i → (j : ℕ) × (suc j ≡ i) × (r ≡ Ok j)
ok_further (Ok j) i e = (j, ap at e, refl)
ok_further (Err j) i e = absurd (true≢false (sym (ap is_ok e)))

err_further : (r : Result ℕ ℕ) (i : ℕ) → one_further r ≡ Err i → (j : ℕ) × (suc j ≡ i) × (r ≡ Err j)
err_further (Ok j) i e = absurd (true≢false (ap is_ok e))
err_further (Err j) i e = (j, ap at e, refl)

-- what is so of each entry, with one more
pub all_put : {X : Type 0} (P : X → Type 0) (n : ℕ) (v : X) (es : List (ℕ × X)) → P v → All (λ e. P e.1) es → All (λ e. P e.1) (insert_entry nat_cmp es n v)
all_put {X} P n v [] here all = All-cons (λ (e : ℕ × X). P e.1) (n, v) [] here all
all_put {X} P n v (e ∷ es) here all =
    let Q = λ (e : ℕ × X). P e.1 in
    elim (nat_cmp n e.0) as (λ o. All Q (match_ordering o ((n, v) ∷ e ∷ es) ((e.0, v) ∷ es) (e ∷ insert_entry nat_cmp es n v))) [
      | Less ↦ All-cons Q (n, v) (e ∷ es) here all
      | Equal ↦ All-cons Q (e.0, v) es here (All-tail Q e es all)
      | Greater ↦ All-cons Q e (insert_entry nat_cmp es n v) (All-head Q e es all) (all_put P n v es here (All-tail Q e es all))
    ]

module _ {X : Type 0} (n : ℕ) where
  -- the number's entry stands at this place
  pub record Stands (es : List (ℕ × X)) (i : ℕ) : Type 0 where
    pub inside : i < length es
    pub value : (d : ℕ × X) → lookup (is_at (nat_cmp n)) es ≡ Some (get_or es i d).1
    pub put : (v : X) → set es i (n, v) ≡ insert_entry nat_cmp es n v

  -- it would go to this place
  pub record Goes (es : List (ℕ × X)) (i : ℕ) : Type 0 where
    pub inside : i ≤ length es
    pub absent : lookup (is_at (nat_cmp n)) es ≡ None
    pub put : (v : X) → insert es i (n, v) ≡ insert_entry nat_cmp es n v

  put_step : (v : X) (e : ℕ × X) (es : List (ℕ × X)) (o : Ordering) → nat_cmp n e.0 ≡ o
      → insert_entry nat_cmp (e ∷ es) n v ≡ match_ordering o ((n, v) ∷ e ∷ es) ((e.0, v) ∷ es) (e ∷ insert_entry nat_cmp es n v)
  put_step v e es o h = ap (λ o. match_ordering o ((n, v) ∷ e ∷ es) ((e.0, v) ∷ es) (e ∷ insert_entry nat_cmp es n v)) h

  pub stands : (es : List (ℕ × X)) (i : ℕ) → place es n ≡ Ok i → Stands es i
  stands [] i h = absurd (true≢false (sym (ap is_ok h)))
  stands (e ∷ es) i h = by_ordering (nat_cmp n e.0)
      (λ q. absurd (true≢false (sym (ap is_ok (sym (step n e es Less q) ∙ h)))))
      (λ q. subst (Stands (e ∷ es)) (ap at (sym (step n e es Equal q) ∙ h)) (record {
        inside = omega arith;
        value = λ d. lookup_head (is_at (nat_cmp n)) e es (ap is_eq q);
        put = λ v. ap (λ k. (k, v) ∷ es) (same_number n e.0 (ap is_eq q)) ∙ sym (put_step v e es Equal q);
      }))
      (λ q. let rest = ok_further (place es n) i (sym (step n e es Greater q) ∙ h) in
      let s = stands es rest.0 rest.2 in
      subst (Stands (e ∷ es)) rest.1 (record {
        inside = omega (arith, s.inside);
        value = λ d. lookup_tail (is_at (nat_cmp n)) e es (ap is_eq q) ∙ s.value d;
        put = λ v. ap (λ l. e ∷ l) (s.put v) ∙ sym (put_step v e es Greater q);
      }))

  pub goes : (es : List (ℕ × X)) (i : ℕ) → IsStrictlySortedBy nat_cmp (keys_of es) → place es n ≡ Err i → Goes es i
  goes [] i sorted h = subst (Goes []) (ap at h) (record { inside = omega arith; absent = refl; put = λ v. refl })
  goes (e ∷ es) i sorted h = by_ordering (nat_cmp n e.0)
      (λ q. subst (Goes (e ∷ es)) (ap at (sym (step n e es Less q) ∙ h)) (record {
        inside = omega arith;
        absent = lookup_at_gap nat_cmp_total n (e ∷ es) 0 sorted (λ j f lt. absurd (omega (arith, lt)))
            (λ f first. subst (λ (g : ℕ × X). nat_cmp n g.0 ≡ Less) (same_Some e f first) q);
        put = λ v. sym (put_step v e es Less q);
      }))
      (λ q. absurd (true≢false (ap is_ok (sym (step n e es Equal q) ∙ h))))
      (λ q. let rest = err_further (place es n) i (sym (step n e es Greater q) ∙ h) in
      let g = goes es rest.0 (sorted_tail nat_cmp e.0 (keys_of es) sorted) rest.2 in
      subst (Goes (e ∷ es)) rest.1 (record {
        inside = omega (arith, g.inside);
        absent = lookup_tail (is_at (nat_cmp n)) e es (ap is_eq q) ∙ g.absent;
        put = λ v. ap (λ l. e ∷ l) (g.put v) ∙ sym (put_step v e es Greater q);
      }))

  -- what is so of each number, after a write more
  each_put : (P : ℕ → Type 0) (v : X) (es : List (ℕ × X)) → P n → AllByRecursion P (keys_of es) → AllByRecursion P (keys_of (insert_entry nat_cmp es n v))
  each_put P v [] here all = (here, tt)
  each_put P v (e ∷ es) here all =
      elim (nat_cmp n e.0) as (λ o. AllByRecursion P (keys_of (match_ordering o ((n, v) ∷ e ∷ es) ((e.0, v) ∷ es) (e ∷ insert_entry nat_cmp es n v)))) [
        | Less ↦ (here, all)
        | Equal ↦ all
        | Greater ↦ (all.0, each_put P v es here all.1)
      ]

  -- the order stays
  pub ordered_put : (v : X) (es : List (ℕ × X)) → IsStrictlySortedBy nat_cmp (keys_of es) → IsStrictlySortedBy nat_cmp (keys_of (insert_entry nat_cmp es n v))
  unfolding IsStrictlySortedBy
  ordered_put v [] sorted = (tt, tt)
  ordered_put v (e ∷ es) sorted =
      elim (nat_cmp n e.0) as (λ o. nat_cmp n e.0 ≡ o
      → IsStrictlySortedBy nat_cmp (keys_of (match_ordering o ((n, v) ∷ e ∷ es) ((e.0, v) ∷ es) (e ∷ insert_entry nat_cmp es n v)))) [
        | Less ↦ λ q. ((q, each_above (λ k. nat_cmp e.0 k ≡ Less) (λ k. nat_cmp n k ≡ Less) (λ k above. nat_cmp_total.trans n e.0 k q above) (keys_of es) sorted.0), sorted)
        | Equal ↦ λ q. sorted
        | Greater ↦ λ q. (each_put (λ k. nat_cmp e.0 k ≡ Less) v es (nat_cmp_total.antisymm e.0 n ∙ ap ordering_reverse q) sorted.0, ordered_put v es sorted.1)
      ] refl
    where
      each_above : (P Q : ℕ → Type 0) → ((k : ℕ) → P k → Q k) → (ks : List ℕ) → AllByRecursion P ks → AllByRecursion Q ks
      each_above P Q so [] all = tt
      each_above P Q so (k ∷ ks) all = (so k all.0, each_above P Q so ks all.1)

-- The numbers of the orders that pass a test: the greatest and the least of them.
use Rattle.std.proofs.Common.{◌≡◌, ℕ, ◌≤◌, min, Bool, true, false, cond, T, ◌==◌, ◌||◌, true≢false, List, [], ◌∷◌, map, filter, Option, Some, None, refl, sym}
use Rattle.std.proofs.Common.{ap, ◌∙◌, subst, arith}
use Rattle.std.specs.List.{list_any, AllByRecursion}
use Rattle.std.specs.Option.{option_map_or}
use Rattle.std.specs.Ordering.{eq_by_cmp}
use Rattle.std.specs.FinMap.{FinMap, entries, entries_sorted, get, get-entries, find, is_sorted}
use Rattle.std.proofs.lemmas.Bool.{or_left, or_right}
use Rattle.std.proofs.lemmas.Bool.Decides.{nat_tests}
use Rattle.std.proofs.lemmas.Option.{same_Some}
use Rattle.tables.specs.Keys.{order_cmp}
use Rattle.tables.specs.Maps.{EachRow}
use Rattle.tables.specs.OrderNumbers.{least, greatest, order_numbers}
use Rattle.tables.specs.declared.keys.OrderKey.{OrderKey}
use Rattle.tables.proofs.Orders.{exact_order}
use Rattle.tables.proofs.Entries.{first, second, tied, found_first, found_after}

-- ---- of a list of numbers
least_of : ℕ → Option ℕ → ℕ
least_of n o = option_map_or (min n) o n

below_first : (n : ℕ) (o : Option ℕ) → least_of n o ≤ n
unfolding least_of
below_first n None = omega arith
below_first n (Some y) = omega arith

below_rest : (n y : ℕ) (o : Option ℕ) → o ≡ Some y → least_of n o ≤ y
unfolding least_of
below_rest n y o e = rw e (omega arith)

above_low : (low n : ℕ) (o : Option ℕ) → low ≤ n → ((y : ℕ) → o ≡ Some y → low ≤ y) → low ≤ least_of n o
unfolding least_of
above_low low n None h rest = h
above_low low n (Some y) h rest = omega (arith, rest y refl)

greatest_up_to : (high : ℕ) (ns : List ℕ) → AllByRecursion (λ n. n ≤ high) ns → greatest ns ≤ high
greatest_up_to high [] h = omega arith
greatest_up_to high (n ∷ ns) h = omega (arith, h.0, greatest_up_to high ns h.1)

least_from : (low : ℕ) (ns : List ℕ) → AllByRecursion (λ n. low ≤ n) ns → (x : ℕ) → least ns ≡ Some x → low ≤ x
unfolding least_of
least_from low [] h x e = cc
least_from low (n ∷ ns) h x e = subst (λ y. low ≤ y) (same_Some _ _ e) (above_low low n (least ns) h.0 (least_from low ns h.1))

module _ (n : ℕ) where
  greatest_reaches : (ns : List ℕ) → list_any (λ m. m == n) ns ≡ true → n ≤ greatest ns
  greatest_reaches [] h = absurd (true≢false (sym h))
  greatest_reaches (m ∷ ns) h = elim (m == n) as (λ b. (m == n) ≡ b → (b || list_any (λ k. k == n) ns) ≡ true → n ≤ greatest (m ∷ ns)) [
    | true ↦ λ t _. let same : m ≡ n = grind (arith, nat_tests) in omega arith
    | false ↦ λ _ within. omega (arith, greatest_reaches ns within)
  ] refl h

  least_reaches : (ns : List ℕ) → list_any (λ m. m == n) ns ≡ true → (x : ℕ) × (least ns ≡ Some x) × (x ≤ n)
  unfolding least_of
  least_reaches [] h = absurd (true≢false (sym h))
  least_reaches (m ∷ ns) h = elim (m == n) as (λ b. (m == n) ≡ b → (b || list_any (λ k. k == n) ns) ≡ true → (x : ℕ) × (least (m ∷ ns) ≡ Some x) × (x ≤ n)) [
    | true ↦ λ t _. let same : m ≡ n = grind (arith, nat_tests) in (least_of m (least ns), refl, omega (arith, below_first m (least ns)))
    | false ↦ λ _ within.
        let rest = least_reaches ns within in
        (least_of m (least ns), refl, omega (arith, below_rest m rest.0 (least ns) rest.1, rest.2))
  ] refl h

-- ---- of a table
module _ {X : Type 0} (p : OrderKey × X → Bool) where
  abbrev number : OrderKey × X → ℕ
  number e = e.0.order

  entries_within : (P : ℕ → Type 0) (es : List (OrderKey × X)) → T (is_sorted order_cmp es)
      → ((k : OrderKey) (r : X) → find order_cmp k es ≡ Some r → p (k, r) ≡ true → P k.order) → AllByRecursion P (map number (filter p es))
  entries_within P [] h within = tt
  entries_within P (e ∷ es) h within =
      let rest = entries_within P es (second _ _ h) (λ k r found. within k r (found_after exact_order k r e es (first _ _ h) found)) in
      elim (p e) as (λ b. p e ≡ b → AllByRecursion P (map number (cond b (e ∷ filter p es) (filter p es)))) [
        | true ↦ λ t. (within e.0 e.1 (found_first exact_order e es) t, rest)
        | false ↦ λ t. rest
      ] refl

  -- a row that passes is among the numbers
  entries_reach : (k : OrderKey) (r : X) (es : List (OrderKey × X)) → p (k, r) ≡ true → find order_cmp k es ≡ Some r
      → list_any (λ n. n == k.order) (map number (filter p es)) ≡ true
  entries_reach k r [] passes found = cc
  entries_reach k r (e ∷ es) passes found =
      elim (eq_by_cmp order_cmp k e.0) as (λ b. eq_by_cmp order_cmp k e.0 ≡ b → cond b (Some e.1) (find order_cmp k es) ≡ Some r
      → list_any (λ n. n == k.order) (map number (filter p (e ∷ es))) ≡ true) [
        | true ↦ λ t f. this (exact_order.same k e.0 (tied _ t)) (same_Some _ _ f)
        | false ↦ λ t f. later (p e) (entries_reach k r es passes f)
      ] refl found
    where
      this : k ≡ e.0 → e.1 ≡ r → list_any (λ n. n == k.order) (map number (filter p (e ∷ es))) ≡ true
      this key row =
          ap (λ b. list_any (λ n. n == k.order) (map number (cond b (e ∷ filter p es) (filter p es)))) ((λ i. p (sym key i, row i)) ∙ passes)
          ∙ or_left _ _ (ap (λ (j : OrderKey). j.order == k.order) (sym key) ∙ grind (arith, nat_tests))

      later : (b : Bool) → list_any (λ n. n == k.order) (map number (filter p es)) ≡ true
          → list_any (λ n. n == k.order) (map number (cond b (e ∷ filter p es) (filter p es))) ≡ true
      later true h = or_right _ _ h
      later false h = h

  reached : (m : FinMap order_cmp X) (k : OrderKey) (r : X) → get m k ≡ Some r → p (k, r) ≡ true → list_any (λ n. n == k.order) (order_numbers p m) ≡ true
  reached m k r found passes = entries_reach k r (entries m) passes (sym (get-entries m k) ∙ found)

  -- the greatest is at least each of them
  pub greatest-each : (m : FinMap order_cmp X) (k : OrderKey) (r : X) → get m k ≡ Some r → p (k, r) ≡ true → k.order ≤ greatest (order_numbers p m)
  greatest-each m k r found passes = greatest_reaches k.order (order_numbers p m) (reached m k r found passes)

  -- the least is at most each of them
  pub least-each : (m : FinMap order_cmp X) (k : OrderKey) (r : X) → get m k ≡ Some r → p (k, r) ≡ true → (x : ℕ) × (least (order_numbers p m) ≡ Some x)
      × (x ≤ k.order)
  least-each m k r found passes = least_reaches k.order (order_numbers p m) (reached m k r found passes)

  -- the greatest is at most what each of them is at most
  pub greatest-within : (high : ℕ) (m : FinMap order_cmp X) → EachRow (λ k r. p (k, r) ≡ true → k.order ≤ high) m → greatest (order_numbers p m) ≤ high
  greatest-within high m within =
      greatest_up_to high (order_numbers p m)
      (entries_within (λ n. n ≤ high) (entries m) (entries_sorted m) (λ k r found. within k r (get-entries m k ∙ found)))

  -- the least is at least what each of them is at least
  pub least-within : (low : ℕ) (m : FinMap order_cmp X) → EachRow (λ k r. p (k, r) ≡ true → low ≤ k.order) m → (x : ℕ) → least (order_numbers p m) ≡ Some x
      → low ≤ x
  least-within low m within =
      least_from low (order_numbers p m) (entries_within (λ n. low ≤ n) (entries m) (entries_sorted m) (λ k r found. within k r (get-entries m k ∙ found)))

-- The least and the greatest of the numbers of a district's rows, by which rows are there.
use Rattle.std.proofs.Common.{◌≡◌, ℕ, ◌+◌, ◌-◌, ◌≤◌, ◌==◌, ◌&&◌, Bool, true, false, true≢false, Option, Some, None, is_some, unwrap_or, refl, sym, ap, ◌∙◌, subst, arith}
use Rattle.std.proofs.lemmas.Bool.{eqb-true, eq-eqb}
use Rattle.std.proofs.lemmas.Option.{same_Some}
use Rattle.std.specs.FinMap.{FinMap, get}
use Rattle.tables.specs.Sizes.{IsNumber}
use Rattle.tables.specs.Keys.{order_cmp, is_district}
use Rattle.tables.specs.OrderNumbers.{least, greatest, numbers_in}
use Rattle.tables.specs.declared.keys.DistrictKey.{DistrictKey}
use Rattle.tables.specs.declared.keys.OrderKey.{OrderKey}
use Rattle.tables.proofs.OrderNumbers.{greatest-each, greatest-within, least-each, least-within}
use Rattle.totals_bounds.specs.Ends.{IsLeast, IsGreatest, order_in}

-- no number is left to be looked at
abbrev pub none_left : ℕ → Bool
none_left n = false

its_own : (k : DistrictKey) → is_district k.warehouse k.district k ≡ true
its_own k = (λ i. eq-eqb k.warehouse k.warehouse refl i && eq-eqb k.district k.district refl i)

both : (a b : Bool) → (a && b) ≡ true → (a ≡ true) × (b ≡ true)
both true true h = (refl, refl)
both true false h = absurd (true≢false (sym h))
both false b h = absurd (true≢false (sym h))

-- a key of the district is that of its number there
named : (k : DistrictKey) (j : OrderKey) → is_district j.warehouse j.district k ≡ true → j ≡ order_in k j.order
named k j h =
    let parts = both (j.warehouse == k.warehouse) (j.district == k.district) h in
    λ i. record { warehouse = eqb-true j.warehouse k.warehouse parts.0 i; district = eqb-true j.district k.district parts.1 i; order = j.order }

module _ {X : Type 0} (k : DistrictKey) (m : FinMap order_cmp X) where
  some_row : (w : Option X) → is_some w ≡ true → (r : X) × (w ≡ Some r)
  some_row (Some r) h = (r, refl)
  some_row None h = absurd (true≢false (sym h))

  -- what the number of each row in the district is
  in_district : (P : ℕ → Type 0) → ((n : ℕ) → is_some (get m (order_in k n)) ≡ true → P n) → (j : OrderKey) (r : X) → get m j ≡ Some r
      → is_district j.warehouse j.district k ≡ true → P j.order
  in_district P each j r found at = each j.order (ap (λ a. is_some (get m a)) (sym (named k j at)) ∙ ap is_some found)

  up_to_greatest : (n : ℕ) → is_some (get m (order_in k n)) ≡ true → n ≤ greatest (numbers_in k m)
  up_to_greatest n there = let row = some_row (get m (order_in k n)) there in greatest-each _ m (order_in k n) row.0 row.1 (its_own k)

  from_least : (n : ℕ) → is_some (get m (order_in k n)) ≡ true → (x : ℕ) × (least (numbers_in k m) ≡ Some x) × (x ≤ n)
  from_least n there = let row = some_row (get m (order_in k n)) there in least-each _ m (order_in k n) row.0 row.1 (its_own k)

  -- the rows that the greatest and the least are the numbers of
  greatest_row : 1 ≤ greatest (numbers_in k m) → is_some (get m (order_in k (greatest (numbers_in k m)))) ≡ true
  greatest_row some =
      let g = greatest (numbers_in k m) in
      elim (is_some (get m (order_in k g))) as (λ b. is_some (get m (order_in k g)) ≡ b → b ≡ true) [
        | true ↦ λ _. refl
        | false ↦ λ f.
            let less : g ≤ g - 1 = greatest-within _ (g - 1) m (in_district (λ n. n ≤ g - 1) (λ n there. below g n f there (up_to_greatest n there))) in
            absurd (omega arith)
      ] refl
    where
      below : (g n : ℕ) → is_some (get m (order_in k g)) ≡ false → is_some (get m (order_in k n)) ≡ true → n ≤ g → n ≤ g - 1
      below g n f there h = elim (n == g) as (λ b. (n == g) ≡ b → n ≤ g - 1) [
        | true ↦ λ t. absurd (true≢false (sym there ∙ ap (λ a. is_some (get m (order_in k a))) (eqb-true n g t) ∙ f))
        | false ↦ λ u. let other : n ≡ g → ⊥ = λ e. true≢false (sym (eq-eqb n g e) ∙ u) in omega (arith, h)
      ] refl

  least_row : (x : ℕ) → least (numbers_in k m) ≡ Some x → is_some (get m (order_in k x)) ≡ true
  least_row x e =
      elim (is_some (get m (order_in k x))) as (λ b. is_some (get m (order_in k x)) ≡ b → b ≡ true) [
        | true ↦ λ _. refl
        | false ↦ λ f.
            let more : x + 1 ≤ x = least-within _ (x + 1) m (in_district (λ n. x + 1 ≤ n) (λ n there. above n f there (from_least n there))) x e in
            absurd (omega arith)
      ] refl
    where
      above : (n : ℕ) → is_some (get m (order_in k x)) ≡ false → is_some (get m (order_in k n)) ≡ true
          → (y : ℕ) × (least (numbers_in k m) ≡ Some y) × (y ≤ n) → x + 1 ≤ n
      above n f there h = elim (n == x) as (λ b. (n == x) ≡ b → x + 1 ≤ n) [
        | true ↦ λ t. absurd (true≢false (sym there ∙ ap (λ a. is_some (get m (order_in k a))) (eqb-true n x t) ∙ f))
        | false ↦ λ u.
            let other : n ≡ x → ⊥ = λ e. true≢false (sym (eq-eqb n x e) ∙ u) in
            let same : h.0 ≡ x = same_Some _ _ (sym h.1 ∙ e) in omega (arith, h.2)
      ] refl

  module _ (cap : ℕ) (there : ℕ → Bool) (within : (n : ℕ) → is_some (get m (order_in k n)) ≡ true → IsNumber cap n)
      (same : (n : ℕ) → IsNumber cap n → is_some (get m (order_in k n)) ≡ there n) where
    row_there : (n : ℕ) → is_some (get m (order_in k n)) ≡ true → there n ≡ true
    row_there n h = sym (same n (within n h)) ∙ h

    pub greatest_is : (g : ℕ) → g ≡ greatest (numbers_in k m) → IsGreatest cap there none_left g
    greatest_is g e = record {
      within = λ n is found _. subst (λ a. n ≤ a) (sym e) (up_to_greatest n (same n is ∙ found));
      found = λ some _. row_there g (subst (λ a. is_some (get m (order_in k a)) ≡ true) (sym e) (greatest_row (subst (λ a. 1 ≤ a) e some)));
      limit = subst (λ a. a ≤ cap) (sym e) (greatest-within _ cap m (in_district (λ n. n ≤ cap) (λ n h. (within n h).1)));
    }

    pub is_greatest : (g : ℕ) → IsGreatest cap there none_left g → g ≡ greatest (numbers_in k m)
    is_greatest g h =
        let high : greatest (numbers_in k m) ≤ g =
        greatest-within _ g m (in_district (λ n. n ≤ g) (λ n there. h.within n (within n there) (row_there n there) refl)) in
        let low : 1 ≤ g → g ≤ greatest (numbers_in k m) = λ some. up_to_greatest g (same g (some, h.limit) ∙ h.found some refl) in
        same_number g _ high low
      where
        same_number : (a b : ℕ) → b ≤ a → (1 ≤ a → a ≤ b) → a ≡ b
        same_number a b h l = elim (a == 0) as (λ c. (a == 0) ≡ c → a ≡ b) [
          | true ↦ λ t. let none : a ≡ 0 = eqb-true a 0 t in omega (arith, h)
          | false ↦ λ u. let some : a ≡ 0 → ⊥ = λ e. true≢false (sym (eq-eqb a 0 e) ∙ u) in omega (arith, h, l (omega arith))
        ] refl

    pub least_is : (l : ℕ) → l ≡ unwrap_or (least (numbers_in k m)) 0 → IsLeast cap there none_left l
    least_is l e = elim (least (numbers_in k m)) as (λ w. least (numbers_in k m) ≡ w → IsLeast cap there none_left l) [
      | None ↦ λ none.
          let zero : l ≡ 0 = e ∙ ap (λ w. unwrap_or w 0) none in
          record {
            within = λ n is found _.
                let some = from_least n (same n is ∙ found) in absurd (true≢false (ap is_some (sym some.1 ∙ none)));
            found = λ some _. absurd (omega arith);
            limit = omega arith;
          }
      | Some x ↦ λ first.
          let is_x : l ≡ x = e ∙ ap (λ w. unwrap_or w 0) first in
          let row = least_row x first in
          subst (IsLeast cap there none_left) (sym is_x) (record {
            within = λ n is found _.
                let some = from_least n (same n is ∙ found) in
                ((within x row).0, subst (λ a. a ≤ n) (same_Some _ _ (sym some.1 ∙ first)) some.2);
            found = λ _ _. row_there x row;
            limit = (within x row).1;
          })
    ] refl

    pub is_least : (l : ℕ) → IsLeast cap there none_left l → l ≡ unwrap_or (least (numbers_in k m)) 0
    is_least l h = elim (least (numbers_in k m)) as (λ w. least (numbers_in k m) ≡ w → l ≡ unwrap_or w 0) [
      | None ↦ λ none. zero (λ some.
          let row = from_least l (same l (some, h.limit) ∙ h.found some refl) in true≢false (ap is_some (sym row.1 ∙ none)))
      | Some x ↦ λ first.
          let row = least_row x first in
          let low = h.within x (within x row) (row_there x row) refl in
          let back = from_least l (same l (low.0, h.limit) ∙ h.found low.0 refl) in
          let is_x : back.0 ≡ x = same_Some _ _ (sym back.1 ∙ first) in
          omega (arith, low.1, back.2)
    ] refl
      where
        zero : (1 ≤ l → ⊥) → l ≡ 0
        zero none = elim (l == 0) as (λ c. (l == 0) ≡ c → l ≡ 0) [
          | true ↦ λ t. eqb-true l 0 t
          | false ↦ λ u. let some : l ≡ 0 → ⊥ = λ e. true≢false (sym (eq-eqb l 0 e) ∙ u) in absurd (none (omega arith))
        ] refl

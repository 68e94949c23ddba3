-- The oldest order that waits in a district, and the next: without gaps it has the number after.
use Rattle.std.proofs.Common.{◌≡◌, ℕ, ◌+◌, ◌<◌, ◌≤◌, true, false, true≢false, cond, ◌&&◌, List, [], ◌∷◌, length, map, filter, refl, sym, ap, ◌∙◌}
use Rattle.std.proofs.Common.{Option, Some, None, IsSome, is_some, arith}
use Rattle.std.proofs.lemmas.Option.{same_Some}
use Rattle.std.specs.Option.{unwrap_or}
use Rattle.std.specs.Ordering.{eq_by_cmp}
use Rattle.std.specs.FinMap.{FinMap, get, entries, get-entries, find}
use Rattle.tables.specs.Keys.{order_cmp, is_district, order_key}
use Rattle.tables.specs.OrderNumbers.{least, greatest, next_order, numbers_in}
use Rattle.tables.specs.Database.{Database}
use Rattle.tables.specs.WellFormed.{IsWellFormed}
use Rattle.tables.specs.Rows.{oldest}
use Rattle.tables.specs.Delivery.{waiting}
use Rattle.tables.specs.declared.keys.DistrictKey.{DistrictKey}
use Rattle.tables.specs.declared.keys.OrderKey.{OrderKey}
use Rattle.tables.proofs.Orders.{exact_order}
use Rattle.tables.proofs.Entries.{tied}
use Rattle.tables_laws.proofs.Touched.{self}
use Rattle.tables_laws.proofs.RisingNumbers.{Rises, least_first, least_row}
use Rattle.tables_laws.proofs.NumbersLeft.{IsGapless, left_of, rest_left, no_more}

next_of_rest : (next n : ℕ) (ns : List ℕ) → Rises (n ∷ ns) → IsGapless next (n ∷ ns) → unwrap_or (least ns) next ≡ n + 1
next_of_rest next n [] rise gapless = let last : greatest (n ∷ []) + 1 ≡ next = gapless.0 n (least_first n [] rise) in omega arith
next_of_rest next n (m ∷ ms) rise gapless =
    let count : greatest (n ∷ m ∷ ms) + 1 ≡ n + length (n ∷ m ∷ ms) = gapless.1 n (least_first n (m ∷ ms) rise) in
    let above : n < m = rise.0.0 in
    let few : m + length ms ≤ greatest (m ∷ ms) = no_more m ms rise.1 in
    ap (λ o. unwrap_or o next) (least_first m ms rise.1) ∙ (let e : m ≡ n + 1 = omega arith in e)

-- the least of what is left, or the next number of all
pub next_least : (next o : ℕ) (ns : List ℕ) → Rises ns → IsGapless next ns → least ns ≡ Some o → unwrap_or (least (left_of (Some o) ns)) next ≡ o + 1
next_least next o [] rise gapless is = absurd cc
next_least next o (n ∷ ns) rise gapless is =
    let first : n ≡ o = same_Some _ _ (sym (least_first n ns rise) ∙ is) in
    ap (λ w. unwrap_or (least (left_of w (n ∷ ns))) next) (sym is) ∙ ap (λ l. unwrap_or (least l) next) (rest_left n ns rise)
    ∙ next_of_rest next n ns rise gapless ∙ ap (λ a. a + 1) first

-- a district's numbers are those of its rows
least_none : (ns : List ℕ) → least ns ≡ None → ns ≡ []
least_none [] e = refl
least_none (n ∷ ns) e = absurd cc

module _ {X : Type 0} (k : DistrictKey) (o : ℕ) where
  none_listed : (es : List (OrderKey × X)) → map (λ (e : OrderKey × X). e.0.order) (filter (λ (e : OrderKey × X). is_district e.0.warehouse e.0.district k) es) ≡ []
      → find order_cmp (order_key k o) es ≡ None
  none_listed [] none = refl
  none_listed (e ∷ es) none =
      elim (is_district e.0.warehouse e.0.district k) as (λ b. is_district e.0.warehouse e.0.district k ≡ b
      → map (λ (e : OrderKey × X). e.0.order) (cond b (e ∷ filter (λ (e : OrderKey × X). is_district e.0.warehouse e.0.district k) es)
      (filter (λ (e : OrderKey × X). is_district e.0.warehouse e.0.district k) es)) ≡ []
      → find order_cmp (order_key k o) (e ∷ es) ≡ None) [
        | true ↦ λ within listed. absurd (no_first listed)
        | false ↦ λ within rest.
            elim (eq_by_cmp order_cmp (order_key k o) e.0) as (λ b. eq_by_cmp order_cmp (order_key k o) e.0 ≡ b
            → cond b (Some e.1) (find order_cmp (order_key k o) es) ≡ None) [
              | true ↦ λ at. absurd (true≢false (sym (λ i. self k.warehouse i && self k.district i)
                  ∙ ap (λ (j : OrderKey). is_district j.warehouse j.district k) (exact_order.same (order_key k o) e.0 (tied _ at)) ∙ within))
              | false ↦ λ at. none_listed es rest
            ] refl
      ] refl none
    where
      no_first : {n : ℕ} {ns : List ℕ} → n ∷ ns ≡ [] → ⊥
      no_first e = cc

  none_there : (m : FinMap order_cmp X) → least (numbers_in k m) ≡ None → get m (order_key k o) ≡ None
  none_there m none = get-entries m (order_key k o) ∙ none_listed (entries m) (least_none (numbers_in k m) none)

-- OLDEST tells which order waits: the one of its number, where it has a NEW-ORDER row
module _ (t : Database) (k : DistrictKey) where
  by_waiting : (P : Option ℕ → ℕ → Type 0) → ((o : ℕ) → waiting t k ≡ Some o → P (Some o) o) → (waiting t k ≡ None → P None (next_order t k))
      → P (waiting t k) (oldest t k)
  by_waiting P some none = go (waiting t k) refl
    where
      go : (w : Option ℕ) → waiting t k ≡ w → P w (unwrap_or w (next_order t k))
      go None e = none e
      go (Some o) e = some o e

  pub one_waits : IsSome (get t.new_orders (order_key k (oldest t k))) → waiting t k ≡ Some (oldest t k)
  one_waits = by_waiting (λ w o. IsSome (get t.new_orders (order_key k o)) → w ≡ Some o) (λ o e there. refl)
      (λ e there. absurd (true≢false (sym there ∙ ap is_some (none_there k (next_order t k) t.new_orders e))))

  pub none_waits : get t.new_orders (order_key k (oldest t k)) ≡ None → waiting t k ≡ None
  none_waits = by_waiting (λ w o. get t.new_orders (order_key k o) ≡ None → w ≡ None)
      (λ o e absent. absurd (true≢false (sym (least_row k t.new_orders o e) ∙ ap is_some absent))) (λ e absent. refl)

  -- no number above the order cap has one
  pub none_above : IsWellFormed t → t.scale.orders < oldest t k → waiting t k ≡ None
  none_above wf = by_waiting (λ w o. t.scale.orders < o → w ≡ None)
      (λ o e above. absurd (let within : o ≤ t.scale.orders = (wf.new_orders (order_key k o) (least_row k t.new_orders o e)).2.1 in omega (arith, above, within)))
      (λ e above. refl)

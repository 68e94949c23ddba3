-- The order numbers of a district's rows: after an update, and after a delete of at most one of them.
use Rattle.std.proofs.Common.{◌≡◌, ℕ, Bool, true, false, cond, List, [], ◌∷◌, map, filter, Option, refl, ap, ◌∙◌}
use Rattle.std.specs.FinMap.{FinMap, entries, retain_keys}
use Rattle.tables.specs.Keys.{order_cmp, is_district}
use Rattle.tables.specs.Maps.{map_entries, map_rows}
use Rattle.tables.specs.OrderNumbers.{numbers_in}
use Rattle.tables.specs.declared.keys.DistrictKey.{DistrictKey}
use Rattle.tables.specs.declared.keys.OrderKey.{OrderKey}
use Rattle.tables.proofs.Orders.{exact_order}
use Rattle.tables_laws.proofs.Updates.{entries-map_rows}
use Rattle.tables_laws.proofs.Retained.{entries-retained}
use Rattle.tables_laws.proofs.NumbersLeft.{is_left, left_of}

module _ {X : Type 0} (k : DistrictKey) where
  abbrev within : OrderKey × X → Bool
  within e = is_district e.0.warehouse e.0.district k

  abbrev number : OrderKey × X → ℕ
  number e = e.0.order

  abbrev numbers : List (OrderKey × X) → List ℕ
  numbers es = map number (filter within es)

  entries_updated : (g : OrderKey → X → X) (es : List (OrderKey × X)) → numbers (map_entries g es) ≡ numbers es
  entries_updated g [] = refl
  entries_updated g (e ∷ es) =
      let new : OrderKey × X = (e.0, g e.0 e.1) in
      elim (within e) as (λ b. map number (cond b (new ∷ filter within (map_entries g es)) (filter within (map_entries g es))) ≡ map number
      (cond b (e ∷ filter within es) (filter within es))) [
        | true ↦ ap (λ l. e.0.order ∷ l) (entries_updated g es)
        | false ↦ entries_updated g es
      ]

  -- an update keeps them
  pub numbers-updated : (g : OrderKey → X → X) (m : FinMap order_cmp X) → numbers_in k (map_rows g m) ≡ numbers_in k m
  numbers-updated g m = ap numbers (entries-map_rows g m) ∙ entries_updated g (entries m)

  module _ (keep : OrderKey → Bool) (w : Option ℕ) (at : (j : OrderKey) → is_district j.warehouse j.district k ≡ true → keep j ≡ is_left w j.order) where
    abbrev kept : List (OrderKey × X) → List (OrderKey × X)
    kept es = filter (λ (e : OrderKey × X). keep e.0) es

    entries_left : (es : List (OrderKey × X)) → numbers (kept es) ≡ left_of w (numbers es)
    entries_left [] = refl
    entries_left (e ∷ es) =
        let rest = entries_left es in
        elim (within e) as (λ b. within e ≡ b → numbers (cond (keep e.0) (e ∷ kept es) (kept es)) ≡ left_of w
        (map number (cond b (e ∷ filter within es) (filter within es)))) [
          | true ↦ λ t.
              ap (λ b. numbers (cond b (e ∷ kept es) (kept es))) (at e.0 t)
              ∙ elim (is_left w e.0.order) as
              (λ b. numbers (cond b (e ∷ kept es) (kept es)) ≡ cond b (e.0.order ∷ left_of w (numbers es)) (left_of w (numbers es))) [
                | true ↦ ap (λ b. map number (cond b (e ∷ filter within (kept es)) (filter within (kept es)))) t ∙ ap (λ l. e.0.order ∷ l) rest
                | false ↦ rest
              ]
          | false ↦ λ t.
              elim (keep e.0) as (λ b. numbers (cond b (e ∷ kept es) (kept es)) ≡ numbers (kept es)) [
                | true ↦ ap (λ b. map number (cond b (e ∷ filter within (kept es)) (filter within (kept es)))) t
                | false ↦ refl
              ]
              ∙ rest
        ] refl

    -- a delete of the row with this number leaves the others
    pub numbers-retained : (m : FinMap order_cmp X) → numbers_in k (retain_keys m keep) ≡ left_of w (numbers_in k m)
    numbers-retained m = ap numbers (entries-retained exact_order m keep) ∙ entries_left (entries m)

-- The bounds with what was found stored at a place, where the parts of it are known by equations.
use Rattle.std.proofs.Common.{◌≡◌, ℕ, ◌+◌, ◌-◌, ◌*◌, ◌/◌, ◌%◌, ◌<◌, ◌≤◌, true, max, List, Option, slice_index, slice_set, sym, ap, ◌∙◌, subst, arith}
use Rattle.std.proofs.lemmas.Nat.{div-add-mod'}
use Rattle.tables.specs.Sizes.{Sizes, IsNumber}
use Rattle.tables.specs.Keys.{IsOrderKey}
use Rattle.tables.specs.Records.{record_number, first_number, district_place, order_place, district_at, order_at}
use Rattle.tables.specs.declared.keys.DistrictKey.{DistrictKey}
use Rattle.tables.specs.declared.records.Table.{Table}
use Rattle.tables.specs.declared.records.Table.TheVariants as table
use Rattle.totals_bounds.specs.Bounds.{BoundsView}
use Rattle.totals_bounds.specs.Ends.{HasDistrictPlaces, KeepsEnds, is_there, order_in, first_order, first_new_order}
use Rattle.totals_bounds.proofs.Placed.{order_follows, new_order_follows}
use Rattle.totals_bounds.proofs.KeysAt.{district_same, order_same, order_is}

-- what the functions on one district's numbers ensure
pub record IsLeastAfter (held : ℕ → Option (List ℕ)) (first o least greatest result : ℕ) : Type 0 where
  pub there : 1 ≤ result → is_there held first result ≡ true
  pub number : is_there held first o ≡ true → IsNumber o result
  pub others : (n : ℕ) → is_there held first n ≡ true → IsNumber n least → n ≤ greatest → IsNumber n result
  pub limit : result ≤ max o greatest

pub record IsGreatestAfter (held : ℕ → Option (List ℕ)) (first o greatest result : ℕ) : Type 0 where
  pub there : 1 ≤ result → is_there held first result ≡ true
  pub number : is_there held first o ≡ true → o ≤ result
  pub others : (n : ℕ) → is_there held first n ≡ true → n ≤ greatest → n ≤ result
  pub limit : result ≤ max o greatest

pub record IsGreatestBeside (held : ℕ → Option (List ℕ)) (first o least greatest result : ℕ) : Type 0 where
  pub there : 1 ≤ result → is_there held first result ≡ true
  pub number : is_there held first o ≡ true → IsNumber o least → o ≤ result
  pub others : (n : ℕ) → is_there held first n ≡ true → IsNumber n least → n ≤ greatest → n ≤ result
  pub limit : result ≤ max least (max o greatest)

-- the first record of an order's district
first_is : (start width p row : ℕ) → row ≡ p / width → start + p - (p % width + 1 - 1) ≡ start + (row * width + (1 - 1))
first_is start width p row same = let all = div-add-mod' p width in
    subst (λ r. start + p - (p % width + 1 - 1) ≡ start + (r * width + (1 - 1))) (sym same) (omega (arith, all))

-- a record of ORDER or of NEW-ORDER, by its place there
module _ (held : ℕ → Option (List ℕ)) (v : BoundsView) (places : HasDistrictPlaces v) (p : ℕ) (below : p < v.scale.warehouses * v.scale.districts * v.scale.orders)
    (place o : ℕ) (at : place ≡ p / v.scale.orders) (number : o ≡ p % v.scale.orders + 1) (n first : ℕ) (is_first : first ≡ n - (o - 1)) where
  abbrev s : Sizes
  s = v.scale

  abbrev k : DistrictKey
  k = district_at s (p / s.orders)

  is : IsOrderKey s (order_at s p)
  is = order_is s p below

  its_place : place ≡ district_place s k.warehouse k.district
  its_place = at ∙ sym (district_same s (p / s.orders))

  its_number : (t : Table) → n ≡ record_number s t p → record_number s t (order_place s (order_at s p)) ≡ n
  its_number t same = ap (record_number s t) (order_same s p) ∙ sym same

  its_first : (t : Table) → n ≡ record_number s t p → first ≡ record_number s t (order_place s (order_in k 1))
  its_first t same = is_first ∙ (λ i. same i - (number i - 1))
      ∙ first_is (first_number s t) s.orders p (district_place s k.warehouse k.district) (district_same s (p / s.orders))

  pub order_stored : n ≡ record_number s table.Order p → (old : ℕ) → old ≡ slice_index v.greatest_order place → (result : ℕ)
      → IsGreatestAfter held first o old result → (items : List ℕ) → items ≡ slice_set v.greatest_order place result
      → KeepsEnds s held n v (record v { greatest_order = items })
  order_stored same old was result found items now =
      let first_same : first ≡ first_order s k = its_first table.Order same in
      let old_is : old ≡ slice_index v.greatest_order (district_place s k.warehouse k.district) = was ∙ ap (slice_index v.greatest_order) its_place in
      let it = subst (λ (q : ℕ × ℕ × ℕ). IsGreatestAfter held q.0 q.1 q.2 result) (λ i. (first_same i, number i, old_is i)) found in
      subst (λ (q : ℕ × List ℕ). KeepsEnds s held q.0 v (record v { greatest_order = q.1 }))
      (λ i. (its_number table.Order same i, sym (now ∙ ap (λ q. slice_set v.greatest_order q result) its_place) i))
      (order_follows s held k (p % s.orders + 1) (is.0, is.1) is.2 v places.greatest_order result it.there it.number it.others it.limit)

  pub new_order_stored : n ≡ record_number s table.NewOrder p → (least greatest : ℕ) → least ≡ slice_index v.least_waiting place
      → greatest ≡ slice_index v.greatest_waiting place → (low high : ℕ) → IsLeastAfter held first o least greatest low
      → IsGreatestBeside held first o low greatest high → (lows highs : List ℕ) → lows ≡ slice_set v.least_waiting place low
      → highs ≡ slice_set v.greatest_waiting place high
      → KeepsEnds s held n v (record v { least_waiting = lows; greatest_waiting = highs })
  new_order_stored same least greatest was_least was_greatest low high found found' lows highs now now' =
      let first_same : first ≡ first_new_order s k = its_first table.NewOrder same in
      let least_is : least ≡ slice_index v.least_waiting (district_place s k.warehouse k.district) = was_least ∙ ap (slice_index v.least_waiting) its_place in
      let greatest_is : greatest ≡ slice_index v.greatest_waiting (district_place s k.warehouse k.district) =
      was_greatest ∙ ap (slice_index v.greatest_waiting) its_place in
      let it = subst (λ (q : ℕ × ℕ × ℕ × ℕ). IsLeastAfter held q.0 q.1 q.2 q.3 low) (λ i. (first_same i, number i, least_is i, greatest_is i)) found in
      let it' = subst (λ (q : ℕ × ℕ × ℕ). IsGreatestBeside held q.0 q.1 low q.2 high) (λ i. (first_same i, number i, greatest_is i)) found' in
      subst (λ (q : ℕ × List ℕ × List ℕ). KeepsEnds s held q.0 v (record v { least_waiting = q.1; greatest_waiting = q.2 }))
      (λ i. (
        its_number table.NewOrder same i,
        sym (now ∙ ap (λ q. slice_set v.least_waiting q low) its_place) i,
        sym (now' ∙ ap (λ q. slice_set v.greatest_waiting q high) its_place) i,
      ))
      (new_order_follows s held k (p % s.orders + 1) (is.0, is.1) is.2 v places.least_waiting places.greatest_waiting low high it.there it.number
      it.others it.limit it'.there it'.number it'.others it'.limit)

-- Bounds by place of a district, after one record more was looked at.
use Rattle.std.proofs.Common.{◌≡◌, ◌≢◌, ℕ, ◌*◌, ◌<◌, ◌≤◌, ◌==◌, Bool, true, false, true≢false, max, cond, List, ◌∷◌, Option, Some, is_some, length, slice_index, slice_set, refl, sym, ap, ◌∙◌, subst, arith}
use Rattle.std.proofs.lemmas.Bool.{eqb-true, eq-eqb}
use Rattle.std.proofs.lemmas.List.{get_or-set_same, get_or-set_other}
use Rattle.std.specs.Ordering.{nat_cmp, is_eq}
use Rattle.std.specs.Map.{lookup}
use Rattle.std.specs.BTreeMap.{is_at}
use Rattle.tables.specs.Sizes.{Sizes, IsNumber}
use Rattle.tables.specs.Keys.{IsDistrictKey}
use Rattle.tables.specs.Records.{number_of_key, key_of, district_place, district_at, IsRecordKey}
use Rattle.tables.specs.declared.keys.DistrictKey.{DistrictKey}
use Rattle.tables.specs.declared.keys.OrderKey.{OrderKey}
use Rattle.tables.specs.declared.records.RecordKey.{RecordKey}
use Rattle.tables.specs.declared.records.RecordKey.TheVariants as key
use Rattle.tables.proofs.Numbers.{one_to_one, district_there}
use Rattle.readset.proofs.Numbers.{same_number}
use Rattle.totals_bounds.specs.Bounds.{BoundsView}
use Rattle.totals_bounds.specs.Ends.{IsLeast, IsGreatest, KeepsEnds, is_there, is_among, numbered, order_in, first_order, first_new_order}
use Rattle.totals_bounds.proofs.Stepped.{least_followed, greatest_followed, greatest_beside, least_kept, greatest_kept}

-- the district of an order
abbrev pub district_of : OrderKey → DistrictKey
district_of k = record { warehouse = k.warehouse; district = k.district }

-- the record of an order
pub order_numbered : (s : Sizes) (k : DistrictKey) (n : ℕ) → numbered (first_order s k) n ≡ number_of_key s (key.Order (order_in k n))
order_numbered s k n = omega arith

pub new_order_numbered : (s : Sizes) (k : DistrictKey) (n : ℕ) → numbered (first_new_order s k) n ≡ number_of_key s (key.NewOrder (order_in k n))
new_order_numbered s k n = omega arith

-- one number has one key
same_key : (s : Sizes) (a b : RecordKey) → IsRecordKey s a → IsRecordKey s b → number_of_key s a ≡ number_of_key s b → a ≡ b
same_key s a b is_a is_b e = sym ((one_to_one s).0 a is_a).1 ∙ ap (key_of s) e ∙ ((one_to_one s).0 b is_b).1

-- one place has one district
same_district : (s : Sizes) (a b : DistrictKey) → IsDistrictKey s a → IsDistrictKey s b
    → district_place s a.warehouse a.district ≡ district_place s b.warehouse b.district → a ≡ b
same_district s a b is_a is_b e = sym (district_there s a is_a).1 ∙ ap (district_at s) e ∙ (district_there s b is_b).1

-- the order that a record is of
abbrev of_order : RecordKey → OrderKey → OrderKey
of_order (key.Order k) j = k
of_order (key.NewOrder k) j = k
of_order _ j = j

-- what holds of one district's number and of what the others had holds of all
placed : (s : Sizes) (P : DistrictKey → ℕ → Type 0) (xs : List ℕ) (k : DistrictKey) (y : ℕ) → length xs ≡ s.warehouses * s.districts → IsDistrictKey s k
    → P k y → ((j : DistrictKey) → IsDistrictKey s j → j ≢ k → P j (slice_index xs (district_place s j.warehouse j.district)))
    → (j : DistrictKey) → IsDistrictKey s j
    → P j (slice_index (slice_set xs (district_place s k.warehouse k.district) y) (district_place s j.warehouse j.district))
placed s P xs k y size is_k here others j is_j =
    let p = district_place s k.warehouse k.district in
    let q = district_place s j.warehouse j.district in
    elim (q == p) as (λ b. (q == p) ≡ b → P j (slice_index (slice_set xs p y) q)) [
      | true ↦ λ t.
          let same : q ≡ p = eqb-true q p t in
          let there : p < length xs = subst (λ n. p < n) (sym size) (district_there s k is_k).0 in
          subst (P j) (sym (ap (λ n. slice_index (slice_set xs p y) n) same ∙ get_or-set_same xs p y 0 there))
          (subst (λ a. P a y) (sym (same_district s j k is_j is_k same)) here)
      | false ↦ λ f.
          let differ : q ≢ p = λ e. true≢false (sym (eq-eqb q p e) ∙ f) in
          subst (P j) (sym (get_or-set_other xs p q y 0 differ))
          (others j is_j (λ e. differ (ap (λ (a : DistrictKey). district_place s a.warehouse a.district) e)))
    ] refl

module _ (s : Sizes) (held : ℕ → Option (List ℕ)) (number : ℕ) (left later : ℕ → Bool) (looked : (n : ℕ) → later n ≡ false → left n ≡ true → n ≡ number) where
  -- another record is left as it was
  other : (n : ℕ) → n ≢ number → later n ≡ false → left n ≡ false
  other n differs done = elim (left n) as (λ b. left n ≡ b → left n ≡ false) [
    | true ↦ λ t. absurd (differs (looked n done t))
    | false ↦ λ f. f
  ] refl

  -- the bounds at a place, of which no record is that of the number
  order_kept : (k : DistrictKey) → ((n : ℕ) → IsNumber s.orders n → number_of_key s (key.Order (order_in k n)) ≢ number) → (high : ℕ)
      → IsGreatest s.orders (is_there held (first_order s k)) (λ n. left (numbered (first_order s k) n)) high
      → IsGreatest s.orders (is_there held (first_order s k)) (λ n. later (numbered (first_order s k) n)) high
  order_kept k differs high = greatest_kept _ _ _ _ (λ n is. other _ (λ e. differs n is (sym (order_numbered s k n) ∙ e))) high

  least_waiting_kept : (k : DistrictKey) → ((n : ℕ) → IsNumber s.orders n → number_of_key s (key.NewOrder (order_in k n)) ≢ number) → (low : ℕ)
      → IsLeast s.orders (is_there held (first_new_order s k)) (λ n. left (numbered (first_new_order s k) n)) low
      → IsLeast s.orders (is_there held (first_new_order s k)) (λ n. later (numbered (first_new_order s k) n)) low
  least_waiting_kept k differs low = least_kept _ _ _ _ (λ n is. other _ (λ e. differs n is (sym (new_order_numbered s k n) ∙ e))) low

  greatest_waiting_kept : (k : DistrictKey) → ((n : ℕ) → IsNumber s.orders n → number_of_key s (key.NewOrder (order_in k n)) ≢ number) → (high : ℕ)
      → IsGreatest s.orders (is_there held (first_new_order s k)) (λ n. left (numbered (first_new_order s k) n)) high
      → IsGreatest s.orders (is_there held (first_new_order s k)) (λ n. later (numbered (first_new_order s k) n)) high
  greatest_waiting_kept k differs high = greatest_kept _ _ _ _ (λ n is. other _ (λ e. differs n is (sym (new_order_numbered s k n) ∙ e))) high

-- a record of neither table
pub others_follow : (s : Sizes) (held : ℕ → Option (List ℕ)) (number : ℕ)
    → ((k : DistrictKey) (n : ℕ) → IsDistrictKey s k → IsNumber s.orders n → number_of_key s (key.Order (order_in k n)) ≢ number)
    → ((k : DistrictKey) (n : ℕ) → IsDistrictKey s k → IsNumber s.orders n → number_of_key s (key.NewOrder (order_in k n)) ≢ number)
    → (v : BoundsView) → KeepsEnds s held number v v
others_follow s held number no_order no_new_order v left later looked ends = record {
  greatest_order = λ k is. order_kept s held number left later looked k (λ n. no_order k n is) _ (ends.greatest_order k is);
  least_waiting = λ k is. least_waiting_kept s held number left later looked k (λ n. no_new_order k n is) _ (ends.least_waiting k is);
  greatest_waiting = λ k is. greatest_waiting_kept s held number left later looked k (λ n. no_new_order k n is) _ (ends.greatest_waiting k is);
}

module _ (s : Sizes) (held : ℕ → Option (List ℕ)) (k : DistrictKey) (o : ℕ) (is : IsDistrictKey s k) (number : IsNumber s.orders o) (v : BoundsView) where
  abbrev place : ℕ
  place = district_place s k.warehouse k.district

  -- a record of ORDER
  pub order_follows : length v.greatest_order ≡ s.warehouses * s.districts → (result : ℕ)
      → (1 ≤ result → is_there held (first_order s k) result ≡ true) → (is_there held (first_order s k) o ≡ true → o ≤ result)
      → ((n : ℕ) → is_there held (first_order s k) n ≡ true → n ≤ slice_index v.greatest_order place → n ≤ result)
      → result ≤ max o (slice_index v.greatest_order place)
      → KeepsEnds s held (number_of_key s (key.Order (order_in k o))) v (record v { greatest_order = slice_set v.greatest_order place result })
  order_follows size result reached this others small left later looked ends = record {
    greatest_order = placed s (λ j high. IsGreatest s.orders (is_there held (first_order s j)) (λ n. later (numbered (first_order s j) n)) high)
        v.greatest_order k result size is
        (greatest_followed s.orders _ _ _ o number
        (λ n at done was. same_order n at (sym (order_numbered s k n) ∙ looked _ done was)) _ result (ends.greatest_order k is) reached this others small)
        (λ j is_j differ. order_kept s held _ left later looked j
        (λ n at e. differ (ap (λ (a : RecordKey). district_of (of_order a (order_in k o)))
        (same_key s (key.Order (order_in j n)) (key.Order (order_in k o)) (is_j.0, is_j.1, at) (is.0, is.1, number) e))) _ (ends.greatest_order j is_j));
    least_waiting = λ j is_j. least_waiting_kept s held _ left later looked j (λ n at e. differ j n is_j at e) _ (ends.least_waiting j is_j);
    greatest_waiting = λ j is_j. greatest_waiting_kept s held _ left later looked j (λ n at e. differ j n is_j at e) _ (ends.greatest_waiting j is_j);
  }
    where
      same_order : (n : ℕ) → IsNumber s.orders n → number_of_key s (key.Order (order_in k n)) ≡ number_of_key s (key.Order (order_in k o)) → n ≡ o
      same_order n at e = ap (λ (a : RecordKey). (of_order a (order_in k o)).order)
          (same_key s (key.Order (order_in k n)) (key.Order (order_in k o)) (is.0, is.1, at) (is.0, is.1, number) e)

      differ : (j : DistrictKey) (n : ℕ) → IsDistrictKey s j → IsNumber s.orders n
          → number_of_key s (key.NewOrder (order_in j n)) ≢ number_of_key s (key.Order (order_in k o))
      differ j n is_j at e =
          let same = same_key s (key.NewOrder (order_in j n)) (key.Order (order_in k o)) (is_j.0, is_j.1, at) (is.0, is.1, number) e in cc

  -- a record of NEW-ORDER
  pub new_order_follows : length v.least_waiting ≡ s.warehouses * s.districts → length v.greatest_waiting ≡ s.warehouses * s.districts
      → (low high : ℕ) → (1 ≤ low → is_there held (first_new_order s k) low ≡ true)
      → (is_there held (first_new_order s k) o ≡ true → IsNumber o low)
      → ((n : ℕ) → is_there held (first_new_order s k) n ≡ true → IsNumber n (slice_index v.least_waiting place)
      → n ≤ slice_index v.greatest_waiting place → IsNumber n low)
      → low ≤ max o (slice_index v.greatest_waiting place)
      → (1 ≤ high → is_there held (first_new_order s k) high ≡ true)
      → (is_there held (first_new_order s k) o ≡ true → IsNumber o low → o ≤ high)
      → ((n : ℕ) → is_there held (first_new_order s k) n ≡ true → IsNumber n low → n ≤ slice_index v.greatest_waiting place → n ≤ high)
      → high ≤ max low (max o (slice_index v.greatest_waiting place))
      → KeepsEnds s held (number_of_key s (key.NewOrder (order_in k o))) v
      (record v { least_waiting = slice_set v.least_waiting place low; greatest_waiting = slice_set v.greatest_waiting place high })
  new_order_follows size size' low high reached this others small reached' this' others' small' left later looked ends = record {
    greatest_order = λ j is_j. order_kept s held _ left later looked j (λ n at e. differ j n is_j at e) _ (ends.greatest_order j is_j);
    least_waiting = placed s (λ j least. IsLeast s.orders (is_there held (first_new_order s j)) (λ n. later (numbered (first_new_order s j) n)) least)
        v.least_waiting k low size is here
        (λ j is_j other. least_waiting_kept s held _ left later looked j (λ n at. apart j is_j other n at) _ (ends.least_waiting j is_j));
    greatest_waiting = placed s (λ j greatest. IsGreatest s.orders (is_there held (first_new_order s j)) (λ n. later (numbered (first_new_order s j) n)) greatest)
        v.greatest_waiting k high size' is
        (greatest_beside s.orders _ _ _ o number only low _ high here (ends.greatest_waiting k is) reached' this' others'
        (omega (arith, number.1, small', small, (ends.greatest_waiting k is).limit)))
        (λ j is_j other. greatest_waiting_kept s held _ left later looked j (λ n at. apart j is_j other n at) _ (ends.greatest_waiting j is_j));
  }
    where
      differ : (j : DistrictKey) (n : ℕ) → IsDistrictKey s j → IsNumber s.orders n
          → number_of_key s (key.Order (order_in j n)) ≢ number_of_key s (key.NewOrder (order_in k o))
      differ j n is_j at e =
          let same = same_key s (key.Order (order_in j n)) (key.NewOrder (order_in k o)) (is_j.0, is_j.1, at) (is.0, is.1, number) e in cc

      apart : (j : DistrictKey) → IsDistrictKey s j → j ≢ k → (n : ℕ) → IsNumber s.orders n
          → number_of_key s (key.NewOrder (order_in j n)) ≢ number_of_key s (key.NewOrder (order_in k o))
      apart j is_j other n at e = other (ap (λ (a : RecordKey). district_of (of_order a (order_in k o)))
          (same_key s (key.NewOrder (order_in j n)) (key.NewOrder (order_in k o)) (is_j.0, is_j.1, at) (is.0, is.1, number) e))

      only : (n : ℕ) → IsNumber s.orders n → later (numbered (first_new_order s k) n) ≡ false → left (numbered (first_new_order s k) n) ≡ true → n ≡ o
      only n at done was = ap (λ (a : RecordKey). (of_order a (order_in k o)).order)
          (same_key s (key.NewOrder (order_in k n)) (key.NewOrder (order_in k o)) (is.0, is.1, at) (is.0, is.1, number)
          (sym (new_order_numbered s k n) ∙ looked _ done was))

      here : IsLeast s.orders (is_there held (first_new_order s k)) (λ n. later (numbered (first_new_order s k) n)) low
      here = least_followed s.orders _ _ _ o number only _ _ low (ends.least_waiting k is) (ends.greatest_waiting k is) reached this others small

-- the first of these records is left no more
pub looked_at : (w : ℕ × Option (List ℕ)) (ws : List (ℕ × Option (List ℕ))) (n : ℕ) → is_among ws n ≡ false → is_among (w ∷ ws) n ≡ true → n ≡ w.0
looked_at w ws n done was = elim (is_eq (nat_cmp n w.0)) as (λ b. is_eq (nat_cmp n w.0) ≡ b
    → is_some (cond b (Some w.1) (lookup (is_at (nat_cmp n)) ws)) ≡ true → n ≡ w.0) [
      | true ↦ λ t _. same_number n w.0 t
      | false ↦ λ _ f. absurd (true≢false (sym f ∙ done))
    ] refl was

-- Bounds that begin at those of no rows, and have looked at the records of ORDER and NEW-ORDER up to one.
use Rattle.std.proofs.Common.{◌≡◌, ◌≢◌, ◌⊎◌, inl, inr, ℕ, ◌+◌, ◌*◌, ◌<◌, ◌≤◌, ◌||◌, nat_lt, not, Bool, true, false, true≢false, List, Option, is_some, unwrap_or, slice_index, replicate, ap, sym, ◌∙◌, subst, arith}
use Rattle.std.proofs.lemmas.Bool.Decides.{nat_tests}
use Rattle.std.proofs.lemmas.List.{get_or-replicate}
use Rattle.std.specs.FinMap.{get, empty, get-empty}
use Rattle.tables.specs.Sizes.{Sizes, IsNumber}
use Rattle.tables.specs.Keys.{IsDistrictKey, order_cmp}
use Rattle.tables.specs.OrderNumbers.{least, greatest, numbers_in}
use Rattle.tables.specs.Database.{empty_database}
use Rattle.tables.specs.Records.{number_of_key, first_number, size, district_place}
use Rattle.tables.specs.declared.keys.DistrictKey.{DistrictKey}
use Rattle.tables.specs.declared.records.Table.TheVariants as table
use Rattle.tables.specs.declared.records.RecordKey.TheVariants as key
use Rattle.tables.proofs.Numbers.{district_there, order_there}
use Rattle.totals_bounds.specs.Bounds.{BoundsView, AreBounds, no_bounds}
use Rattle.totals_bounds.specs.Ends.{KeepsEnds, IsLeast, IsGreatest, AreEnds, numbered, order_in, first_order, first_new_order}
use Rattle.totals_bounds.proofs.Stepped.{least_kept, greatest_kept}
use Rattle.totals_bounds.proofs.Placed.{others_follow}
use Rattle.totals_bounds.proofs.Joined.{none_left, is_greatest, is_least}

-- whether a record isn't among those from the first to before the next
abbrev pub is_outside : ℕ → ℕ → ℕ → Bool
is_outside first next n = nat_lt n first || not (nat_lt n next)

all_outside : (first n : ℕ) → is_outside first first n ≡ true
all_outside first n = grind (arith, nat_tests)

inside : (first next n : ℕ) → first ≤ n → n < next → is_outside first next n ≡ false
inside first next n h k = grind (arith, nat_tests)

pub outside : (first next n : ℕ) → (n < first) ⊎ ((first ≤ n) × (next ≤ n)) → is_outside first next n ≡ true
outside first next n (inl below) = grind (arith, nat_tests, below)
outside first next n (inr above) = let h = above.1 in grind (arith, nat_tests, h)

pub next_inside : (first next n : ℕ) → is_outside first (next + 1) n ≡ false → is_outside first next n ≡ true → n ≡ next
next_inside first next n h k = grind (arith, nat_tests)

zero_at : (s : Sizes) (k : DistrictKey) → IsDistrictKey s k
    → slice_index (replicate (s.warehouses * s.districts) 0) (district_place s k.warehouse k.district) ≡ 0
zero_at s k is = get_or-replicate (s.warehouses * s.districts) (district_place s k.warehouse k.district) 0 0 (district_there s k is).0

module _ (s : Sizes) (held : ℕ → Option (List ℕ)) where
  zero_greatest : (cap : ℕ) (there left : ℕ → Bool) → ((n : ℕ) → left n ≡ true) → IsGreatest cap there left 0
  zero_greatest cap there left all = record {
    within = λ n is found f. absurd (true≢false (sym (all n) ∙ f));
    found = λ some _. absurd (omega arith);
    limit = omega arith;
  }

  zero_least : (cap : ℕ) (there left : ℕ → Bool) → ((n : ℕ) → left n ≡ true) → IsLeast cap there left 0
  zero_least cap there left all = record {
    within = λ n is found f. absurd (true≢false (sym (all n) ∙ f));
    found = λ some _. absurd (omega arith);
    limit = omega arith;
  }

  pub none_yet : (first : ℕ) → AreEnds s held (is_outside first first) (no_bounds s)
  none_yet first = record {
    greatest_order = λ k is. subst (IsGreatest s.orders _ _) (sym (zero_at s k is)) (zero_greatest s.orders _ _ (λ n. all_outside first _));
    least_waiting = λ k is. subst (IsLeast s.orders _ _) (sym (zero_at s k is)) (zero_least s.orders _ _ (λ n. all_outside first _));
    greatest_waiting = λ k is. subst (IsGreatest s.orders _ _) (sym (zero_at s k is)) (zero_greatest s.orders _ _ (λ n. all_outside first _));
  }

  -- the two tables' records stand one after another
  order_inside : (k : DistrictKey) → IsDistrictKey s k → (n : ℕ) → IsNumber s.orders n
      → is_outside (first_number s table.NewOrder) (first_number s table.NewOrder + (size s table.NewOrder + size s table.Order)) (numbered (first_order s k) n)
      ≡ false
  order_inside k is n at =
      let h = (order_there s (order_in k n) (is.0, is.1, at)).0 in
      inside (first_number s table.NewOrder) (first_number s table.NewOrder + (size s table.NewOrder + size s table.Order)) (numbered (first_order s k) n)
      (omega arith) (omega (arith, h))

  new_order_inside : (k : DistrictKey) → IsDistrictKey s k → (n : ℕ) → IsNumber s.orders n
      → is_outside (first_number s table.NewOrder) (first_number s table.NewOrder + (size s table.NewOrder + size s table.Order))
      (numbered (first_new_order s k) n) ≡ false
  new_order_inside k is n at =
      let h = (order_there s (order_in k n) (is.0, is.1, at)).0 in
      inside (first_number s table.NewOrder) (first_number s table.NewOrder + (size s table.NewOrder + size s table.Order)) (numbered (first_new_order s k) n)
      (omega arith) (omega (arith, h))

  -- a record outside is of neither
  pub outside_follows : (number : ℕ)
      → is_outside (first_number s table.NewOrder) (first_number s table.NewOrder + (size s table.NewOrder + size s table.Order)) number ≡ true
      → (v : BoundsView) → KeepsEnds s held number v v
  outside_follows number past v = others_follow s held number
      (λ k n is at e. other (number_of_key s (key.Order (order_in k n))) (order_here k n is at) e)
      (λ k n is at e. other (number_of_key s (key.NewOrder (order_in k n))) (new_order_here k n is at) e) v
    where
      range : ℕ → Bool
      range = is_outside (first_number s table.NewOrder) (first_number s table.NewOrder + (size s table.NewOrder + size s table.Order))

      order_here : (k : DistrictKey) (n : ℕ) → IsDistrictKey s k → IsNumber s.orders n → range (number_of_key s (key.Order (order_in k n))) ≡ false
      order_here k n is at =
          let h = (order_there s (order_in k n) (is.0, is.1, at)).0 in
          inside (first_number s table.NewOrder) (first_number s table.NewOrder + (size s table.NewOrder + size s table.Order))
          (number_of_key s (key.Order (order_in k n))) (omega arith) (omega (arith, h))

      new_order_here : (k : DistrictKey) (n : ℕ) → IsDistrictKey s k → IsNumber s.orders n → range (number_of_key s (key.NewOrder (order_in k n))) ≡ false
      new_order_here k n is at =
          let h = (order_there s (order_in k n) (is.0, is.1, at)).0 in
          inside (first_number s table.NewOrder) (first_number s table.NewOrder + (size s table.NewOrder + size s table.Order))
          (number_of_key s (key.NewOrder (order_in k n))) (omega arith) (omega (arith, h))

      other : (m : ℕ) → range m ≡ false → m ≢ number
      other m here e = true≢false (sym (ap range e ∙ past) ∙ here)

  pub all_seen : (v : BoundsView)
      → AreEnds s held (is_outside (first_number s table.NewOrder) (first_number s table.NewOrder + (size s table.NewOrder + size s table.Order))) v
      → AreEnds s held none_left v
  all_seen v ends = record {
    greatest_order = λ k is. greatest_kept s.orders _ _ _ (λ n at _. order_inside k is n at) _ (ends.greatest_order k is);
    least_waiting = λ k is. least_kept s.orders _ _ _ (λ n at _. new_order_inside k is n at) _ (ends.least_waiting k is);
    greatest_waiting = λ k is. greatest_kept s.orders _ _ _ (λ n at _. new_order_inside k is n at) _ (ends.greatest_waiting k is);
  }

-- tables without rows
module _ (X : Type 0) (k : DistrictKey) where
  no_row : (n : ℕ) → is_some (get (empty {X = X} {R = order_cmp}) (order_in k n)) ≡ false
  no_row n = ap is_some (get-empty order_cmp (order_in k n))

  no_greatest : 0 ≡ greatest (numbers_in k (empty {X = X} {R = order_cmp}))
  no_greatest = is_greatest k empty 0 none_left (λ n there. absurd (true≢false (sym there ∙ no_row n))) (λ n is. no_row n) 0 (record {
    within = λ n is found _. absurd (true≢false (sym found));
    found = λ some _. absurd (omega arith);
    limit = omega arith;
  })

  no_least : 0 ≡ unwrap_or (least (numbers_in k (empty {X = X} {R = order_cmp}))) 0
  no_least = is_least k empty 0 none_left (λ n there. absurd (true≢false (sym there ∙ no_row n))) (λ n is. no_row n) 0 (record {
    within = λ n is found _. absurd (true≢false (sym found));
    found = λ some _. absurd (omega arith);
    limit = omega arith;
  })

pub without_rows : (s : Sizes) → AreBounds s (empty_database s) (no_bounds s)
without_rows s = record {
  greatest_order = λ k is. zero_at s k is ∙ no_greatest _ k;
  least_waiting = λ k is. zero_at s k is ∙ no_least _ k;
  greatest_waiting = λ k is. zero_at s k is ∙ no_greatest _ k;
}

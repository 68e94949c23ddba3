-- The bounds of tables, by what their records hold.
use Rattle.std.proofs.Common.{◌≡◌, ℕ, ◌<◌, ◌≤◌, Bool, true, false, true≢false, All, List, Option, Some, None, is_some, unwrap_or, refl, sym, ap, ◌∙◌, subst, arith}
use Rattle.std.specs.Option.{option_map}
use Rattle.std.specs.FinMap.{get}
use Rattle.tables.specs.Sizes.{Sizes, IsNumber}
use Rattle.tables.specs.Keys.{IsDistrictKey}
use Rattle.tables.specs.Records.{number_of_key, narrow_count, IsNarrowKey}
use Rattle.tables.specs.Rows.{rows, row_at, order_words, new_order_words}
use Rattle.tables.specs.Database.{Database}
use Rattle.tables.specs.declared.keys.DistrictKey.{DistrictKey}
use Rattle.tables.specs.declared.records.RecordKey.{RecordKey}
use Rattle.tables.specs.declared.records.RecordKey.TheVariants as key
use Rattle.tables.proofs.Numbers.{named, narrow_named, of_narrow}
use Rattle.readset.specs.Writes.{WriteSetView, value_for}
use Rattle.totals_bounds.specs.Bounds.{BoundsView, AreBounds}
use Rattle.totals_bounds.specs.Written.{HasOrdersWithin, AreRowsOf, IsWith}
use Rattle.totals_bounds.specs.Ends.{IsLeast, IsGreatest, AreEnds, is_there, is_among, numbered, order_in, first_order, first_new_order}
use Rattle.totals_bounds.proofs.Placed.{order_numbered, new_order_numbered}
use Rattle.readset.proofs.TwoKinds.{none_below}
use Rattle.totals_bounds.proofs.Stepped.{least_kept, greatest_kept}
use Rattle.totals_bounds.proofs.Joined.{none_left, greatest_is, is_greatest, least_is, is_least}

is_some-map : {X Y : Type 0} (f : X → Y) (w : Option X) → is_some (option_map f w) ≡ is_some w
is_some-map f None = refl
is_some-map f (Some x) = refl

-- what the record of a key holds
held_at : (t : Database) (held : ℕ → Option (List ℕ)) → AreRowsOf t held → (k : RecordKey) → IsNarrowKey t.scale k
    → held (number_of_key t.scale k) ≡ row_at t k
held_at t held are k is =
    are (number_of_key t.scale k) (narrow_named t.scale k is) ∙ ap (row_at t) (named t.scale k (of_narrow t.scale k is)).1

module _ (t : Database) (held : ℕ → Option (List ℕ)) (are : AreRowsOf t held) (within : HasOrdersWithin t) (k : DistrictKey) (is : IsDistrictKey t.scale k) where
  order_there : (n : ℕ) → IsNumber t.scale.orders n → is_some (get t.orders (order_in k n)) ≡ is_there held (first_order t.scale k) n
  order_there n at =
      sym (ap (λ m. is_some (held m)) (order_numbered t.scale k n) ∙ ap is_some (held_at t held are (key.Order (order_in k n)) (is.0, is.1, at))
      ∙ is_some-map order_words (get t.orders (order_in k n)))

  new_order_there : (n : ℕ) → IsNumber t.scale.orders n → is_some (get t.new_orders (order_in k n)) ≡ is_there held (first_new_order t.scale k) n
  new_order_there n at =
      sym (ap (λ m. is_some (held m)) (new_order_numbered t.scale k n) ∙ ap is_some (held_at t held are (key.NewOrder (order_in k n)) (is.0, is.1, at))
      ∙ is_some-map new_order_words (get t.new_orders (order_in k n)))

  order_number : (n : ℕ) → is_some (get t.orders (order_in k n)) ≡ true → IsNumber t.scale.orders n
  order_number n there = (within.orders (order_in k n) there).2

  new_order_number : (n : ℕ) → is_some (get t.new_orders (order_in k n)) ≡ true → IsNumber t.scale.orders n
  new_order_number n there = (within.new_orders (order_in k n) there).2

module _ (t : Database) (held : ℕ → Option (List ℕ)) (are : AreRowsOf t held) (within : HasOrdersWithin t) (v : BoundsView) where
  pub ends_of : AreBounds t.scale t v → AreEnds t.scale held none_left v
  ends_of bounds = record {
    greatest_order = λ k is. greatest_is k t.orders t.scale.orders (is_there held (first_order t.scale k)) (order_number t held are within k is)
        (order_there t held are within k is) _ (bounds.greatest_order k is);
    least_waiting = λ k is. least_is k t.new_orders t.scale.orders (is_there held (first_new_order t.scale k)) (new_order_number t held are within k is)
        (new_order_there t held are within k is) _ (bounds.least_waiting k is);
    greatest_waiting = λ k is. greatest_is k t.new_orders t.scale.orders (is_there held (first_new_order t.scale k))
        (new_order_number t held are within k is) (new_order_there t held are within k is) _ (bounds.greatest_waiting k is);
  }

  pub bounds_of : AreEnds t.scale held none_left v → AreBounds t.scale t v
  bounds_of ends = record {
    greatest_order = λ k is. is_greatest k t.orders t.scale.orders (is_there held (first_order t.scale k)) (order_number t held are within k is)
        (order_there t held are within k is) _ (ends.greatest_order k is);
    least_waiting = λ k is. is_least k t.new_orders t.scale.orders (is_there held (first_new_order t.scale k)) (new_order_number t held are within k is)
        (new_order_there t held are within k is) _ (ends.least_waiting k is);
    greatest_waiting = λ k is. is_greatest k t.new_orders t.scale.orders (is_there held (first_new_order t.scale k))
        (new_order_number t held are within k is) (new_order_there t held are within k is) _ (ends.greatest_waiting k is);
  }

-- the records of orders are narrow
module _ (s : Sizes) where
  order_below : (k : DistrictKey) → IsDistrictKey s k → (n : ℕ) → IsNumber s.orders n → numbered (first_order s k) n < narrow_count s
  order_below k is n at =
      subst (λ m. m < narrow_count s) (sym (order_numbered s k n)) (narrow_named s (key.Order (order_in k n)) (is.0, is.1, at))

  new_order_below : (k : DistrictKey) → IsDistrictKey s k → (n : ℕ) → IsNumber s.orders n → numbered (first_new_order s k) n < narrow_count s
  new_order_below k is n at =
      subst (λ m. m < narrow_count s) (sym (new_order_numbered s k n)) (narrow_named s (key.NewOrder (order_in k n)) (is.0, is.1, at))

-- where records that aren't left hold what they held, the bounds are right but for those that are
module _ (s : Sizes) (before held : ℕ → Option (List ℕ)) (left : ℕ → Bool) (same : (n : ℕ) → n < narrow_count s → left n ≡ false → held n ≡ before n)
  where
    greatest_still : (first : ℕ) → ((n : ℕ) → IsNumber s.orders n → numbered first n < narrow_count s) → (high : ℕ)
        → IsGreatest s.orders (is_there before first) none_left high → IsGreatest s.orders (is_there held first) (λ n. left (numbered first n)) high
    greatest_still first below high was = record {
      within = λ n is found kept. was.within n is (ap is_some (sym (same _ (below n is) kept)) ∙ found) refl;
      found = λ some kept. ap is_some (same _ (below high (some, was.limit)) kept) ∙ was.found some refl;
      limit = was.limit;
    }

    least_still : (first : ℕ) → ((n : ℕ) → IsNumber s.orders n → numbered first n < narrow_count s) → (low : ℕ)
        → IsLeast s.orders (is_there before first) none_left low → IsLeast s.orders (is_there held first) (λ n. left (numbered first n)) low
    least_still first below low was = record {
      within = λ n is found kept. was.within n is (ap is_some (sym (same _ (below n is) kept)) ∙ found) refl;
      found = λ some kept. ap is_some (same _ (below low (some, was.limit)) kept) ∙ was.found some refl;
      limit = was.limit;
    }

    pub ends_still : (v : BoundsView) → AreEnds s before none_left v → AreEnds s held left v
    ends_still v was = record {
      greatest_order = λ k is. greatest_still _ (order_below s k is) _ (was.greatest_order k is);
      least_waiting = λ k is. least_still _ (new_order_below s k is) _ (was.least_waiting k is);
      greatest_waiting = λ k is. greatest_still _ (new_order_below s k is) _ (was.greatest_waiting k is);
    }

-- records behind the narrow ones are none that is looked at
among_none : (count : ℕ) (wide : List (ℕ × Option (List ℕ))) → All (λ e. count ≤ e.0) wide → (n : ℕ) → n < count → is_among wide n ≡ false
among_none count wide behind n small =
    ap is_some (none_below n wide (λ i d inside. omega (arith, small, behind i d inside)))

pub ends_beyond : (s : Sizes) (held : ℕ → Option (List ℕ)) (v : BoundsView) (wide : List (ℕ × Option (List ℕ))) → All (λ e. narrow_count s ≤ e.0) wide
    → AreEnds s held (is_among wide) v → AreEnds s held none_left v
ends_beyond s held v wide behind was =
    let none = among_none (narrow_count s) wide behind in record {
      greatest_order = λ k is. greatest_kept s.orders _ _ _ (λ n at _. none _ (order_below s k is n at)) _ (was.greatest_order k is);
      least_waiting = λ k is. least_kept s.orders _ _ _ (λ n at _. none _ (new_order_below s k is n at)) _ (was.least_waiting k is);
      greatest_waiting = λ k is. greatest_kept s.orders _ _ _ (λ n at _. none _ (new_order_below s k is n at)) _ (was.greatest_waiting k is);
    }

none : {X : Type 0} (w : Option X) → is_some w ≡ false → w ≡ None
none None h = refl
none (Some x) h = absurd (true≢false h)

-- the bounds of tables are, right but for what was written, those of the tables after it
pub ends_before : (t u : Database) (writes : WriteSetView) (held : ℕ → Option (List ℕ)) (v : BoundsView) → HasOrdersWithin t → IsWith t u writes
    → AreRowsOf u held → AreBounds t.scale t v → AreEnds t.scale held (is_among writes.values) v
ends_before t u writes held v within after are bounds =
    ends_still t.scale (rows t) held (is_among writes.values) same v (ends_of t (rows t) (λ n _. refl) within v bounds)
  where
    same : (n : ℕ) → n < narrow_count t.scale → is_among writes.values n ≡ false → held n ≡ rows t n
    same n below kept =
        are n (subst (λ s. n < narrow_count s) (sym after.scale) below) ∙ after.rows n below
        ∙ ap (λ w. unwrap_or w (rows t n)) (none (value_for writes n) kept)

-- OLDEST and the NEW-ORDER record of its number, as read, tell which order waits longest in a district, if one does.
use Rattle.std.proofs.Common.{◌≡◌, inr, ℕ, ◌<◌, Option, Some, None, IsSome, refl, sym, ap, ◌∙◌, subst, arith}
use Rattle.std.specs.Option.{option_map}
use Rattle.std.specs.FinMap.{get}
use Rattle.tables.specs.Sizes.{Sizes}
use Rattle.tables.specs.Keys.{IsDistrictKey, order_key}
use Rattle.tables.specs.Database.{Database}
use Rattle.tables.specs.Records.{number_of_key}
use Rattle.tables.specs.Rows.{oldest}
use Rattle.tables.specs.Delivery.{waiting}
use Rattle.tables.specs.declared.keys.DistrictKey.{DistrictKey}
use Rattle.tables.specs.declared.records.RecordKey.TheVariants as key
use Rattle.readset.specs.Reads.{held}
use Rattle.readset.specs.Explains.{HasOrderConditions}
use Rattle.readset.specs.Transaction.{TransactionView, AtAll}
use Rattle.delivery.proofs.NextOldest.{one_waits, none_waits, none_above}

-- a row that is made of another's columns is there where that is
pub row_there : {X Y : Type 0} (f : X → Y) (w : Option X) (y : Y) → option_map f w ≡ Some y → IsSome w
row_there f None y e = absurd cc
row_there f (Some x) y e = refl

pub row_absent : {X Y : Type 0} (f : X → Y) (w : Option X) → option_map f w ≡ None → w ≡ None
row_absent f None e = refl
row_absent f (Some x) e = absurd cc

module _ (t0 : Database) (home : DistrictKey) (under_way : TransactionView) (first : ℕ) (is_home : IsDistrictKey t0.scale home)
    (first_held : IsSome (held under_way.reads (number_of_key t0.scale (key.Oldest home))))
    (first_read : AtAll t0 under_way (λ t. oldest t home ≡ first))
  where
    numbered_at : AtAll t0 under_way (λ t. HasOrderConditions t home)
    numbered_at t h =
        let s : t.scale ≡ t0.scale = h.of_population.scale in
        h.numbered home (subst (λ (q : Sizes). IsDistrictKey q home) (sym s) is_home)
        (inr (subst (λ (q : Sizes). IsSome (held under_way.reads (number_of_key q (key.Oldest home)))) (sym s) first_held))

    -- the row is there
    pub one_read : AtAll t0 under_way (λ t. IsSome (get t.new_orders (order_key home first)))
        → AtAll t0 under_way (λ t. (waiting t home ≡ Some first) × HasOrderConditions t home)
    one_read there t h = (
      one_waits t home (subst (λ o. IsSome (get t.new_orders (order_key home o))) (sym (first_read t h)) (there t h)) ∙ ap Some (first_read t h),
      numbered_at t h,
    )

    -- or isn't
    pub none_read : AtAll t0 under_way (λ t. get t.new_orders (order_key home first) ≡ None)
        → AtAll t0 under_way (λ t. (waiting t home ≡ None) × HasOrderConditions t home)
    none_read absent t h = (
      none_waits t home (ap (λ o. get t.new_orders (order_key home o)) (first_read t h) ∙ absent t h),
      numbered_at t h,
    )

    -- or can't be, above the order cap
    pub above_read : t0.scale.orders < first → AtAll t0 under_way (λ t. (waiting t home ≡ None) × HasOrderConditions t home)
    above_read above t h = (
      none_above t home h.well_formed (
          let cap : t.scale.orders ≡ t0.scale.orders = ap (λ (q : Sizes). q.orders) h.of_population.scale in
          let first_is : oldest t home ≡ first = first_read t h in
          omega (arith, above, first_is, cap)),
      numbered_at t h,
    )

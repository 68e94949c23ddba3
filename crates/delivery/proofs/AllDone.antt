-- Once all districts of the scale are done, the tables are those after the Delivery: none beyond has an order that waits.
use Rattle.std.proofs.Common.{◌≡◌, ℕ, nat_le, Bool, true, false, not, cond, ◌==◌, ◌&&◌, Option, Some, None, refl, arith}
use Rattle.std.proofs.lemmas.Bool.Decides.{nat_tests}
use Rattle.std.specs.Option.{option_map_or}
use Rattle.std.specs.FinMap.{retain_keys}
use Rattle.tables.specs.Keys.{order_of}
use Rattle.tables.specs.Maps.{map_rows, update_where}
use Rattle.tables.specs.Database.{Database}
use Rattle.tables.specs.Delivery.{waiting, taken, carried, dated, after_taken, after_delivery}
use Rattle.tables.specs.WellFormed.{IsWellFormed}
use Rattle.tables.specs.declared.keys.DistrictKey.{DistrictKey}
use Rattle.tables.specs.declared.keys.OrderKey.{OrderKey}
use Rattle.tables.specs.declared.delivery.DeliveryInput.{DeliveryInput}
use Rattle.tables_laws.proofs.RisingNumbers.{least_row}
use Rattle.delivery.specs.Steps.{taken_by, after_districts}

module _ (t : Database) (x : DeliveryInput) (wf : IsWellFormed t) where
  none_beyond : (k : DistrictKey) → nat_le k.district t.scale.districts ≡ false → None ≡ waiting t k
  none_beyond k beyond = go (waiting t k) refl
    where
      go : (w : Option ℕ) → waiting t k ≡ w → None ≡ w
      go None is = refl
      go (Some o) is =
          let key = wf.new_orders (record { warehouse = k.warehouse; district = k.district; order = o }) (least_row k t.new_orders o is) in
          let within = key.1.1 in
          absurd (grind (arith, nat_tests))

  all_taken : (k : DistrictKey) → taken_by t x t.scale.districts k ≡ taken t x k
  all_taken k = go (k.warehouse == x.warehouse) (nat_le k.district t.scale.districts) refl
    where
      go : (home done : Bool) → nat_le k.district t.scale.districts ≡ done → cond (home && done) (waiting t k) None ≡ cond home (waiting t k) None
      go false done is = refl
      go true true is = refl
      go true false is = none_beyond k is

  -- the tables, by what is taken in each district
  abbrev with_taken : (DistrictKey → Option ℕ) → Database
  with_taken f =
      let is_one : OrderKey → Bool = λ k. option_map_or (λ o. o == k.order) (f (record { warehouse = k.warehouse; district = k.district })) false in
      record t {
        customers = map_rows (λ c r. after_taken t c (f (record { warehouse = c.warehouse; district = c.district })) r) t.customers;
        new_orders = retain_keys t.new_orders (λ k. not (is_one k));
        orders = update_where is_one (carried x) t.orders;
        lines = update_where (λ j. is_one (order_of j)) (dated x) t.lines;
      }

  pub all_done : after_districts t x t.scale.districts ≡ after_delivery t x
  all_done = λ i. with_taken (λ k. all_taken k i)

-- Before its first district, a Delivery has taken no order: no district has a number below 1.
use Rattle.std.proofs.Common.{◌≡◌, ℕ, ◌≤◌, [], nat_le, true, false, not, cond, ◌==◌, ◌&&◌, Option, Some, None, refl, ap, ◌∙◌, arith}
use Rattle.std.proofs.lemmas.Bool.Decides.{nat_tests}
use Rattle.std.specs.Option.{option_map, option_map_or, unwrap_or}
use Rattle.std.specs.FinMap.{get}
use Rattle.tables.specs.Keys.{order_of}
use Rattle.tables.specs.OrderNumbers.{least, numbers_in, next_order}
use Rattle.tables.specs.Database.{Database}
use Rattle.tables.specs.Records.{IsRecordKey}
use Rattle.tables.specs.Rows.{row_at, customer_words, new_order_words, order_words, line_words, number_words}
use Rattle.tables.specs.Delivery.{waiting, carried, dated, after_taken}
use Rattle.tables.specs.declared.keys.DistrictKey.{DistrictKey}
use Rattle.tables.specs.declared.keys.OrderKey.{OrderKey}
use Rattle.tables.specs.declared.delivery.DeliveryInput.{DeliveryInput}
use Rattle.tables.specs.declared.records.RecordKey.{RecordKey}
use Rattle.tables.specs.declared.records.RecordKey.TheVariants as key
use Rattle.tables_laws.proofs.NumbersLeft.{left_of, all_left}
use Rattle.readset.specs.Reads.{ReadSetView}
use Rattle.readset.specs.Writes.{no_writes}
use Rattle.readset.proofs.HoldsChanges.{holds-changes, holds_first}
use Rattle.delivery.specs.Steps.{AreDone, taken_by, is_taken_by, after_districts, with_oldest}
use Rattle.delivery.proofs.WithOldest.{of_one}
use Rattle.delivery.proofs.Rows.{customer_home, order_home, customer_row, new_order_row, order_row, line_row_after, oldest_left}
use Rattle.delivery.proofs.LastKept.{last_kept}

module _ (t : Database) (x : DeliveryInput) where
  none_taken : (k : DistrictKey) → 1 ≤ k.district → taken_by t x 0 k ≡ None
  none_taken k first = let below : nat_le k.district 0 ≡ false = grind (arith, nat_tests, first) in
      elim (k.warehouse == x.warehouse) as (λ b. cond (b && nat_le k.district 0) (waiting t k) None ≡ None)
      [ true ↦ ap (λ b. cond b (waiting t k) None) below | false ↦ refl ]

  same : {X : Type 0} (w : Option X) → option_map (λ r. r) w ≡ w
  same None = refl
  same (Some r) = refl

  not_taken : (k : OrderKey) → 1 ≤ k.district → is_taken_by t x 0 k ≡ false
  not_taken k first = ap (λ (o : Option ℕ). option_map_or (λ q. q == k.order) o false) (none_taken (order_home k) first)

  pub none_taken_yet : (j : RecordKey) → IsRecordKey t.scale j → row_at (after_districts t x 0) j ≡ row_at t j
  none_taken_yet (key.Warehouse w) is = refl
  none_taken_yet (key.District h) is = refl
  none_taken_yet (key.Customer c) is =
      ap (option_map customer_words) (customer_row t x 0 c ∙ ap (λ o. option_map (after_taken t c o) (get t.customers c)) (none_taken (customer_home c) is.1.0)
      ∙ same (get t.customers c))
  none_taken_yet (key.NewOrder k) is =
      ap (option_map new_order_words) (new_order_row t x 0 k ∙ ap (λ b. cond (not b) (get t.new_orders k) None) (not_taken k is.1.0))
  none_taken_yet (key.Order k) is =
      ap (option_map order_words) (order_row t x 0 k ∙ ap (λ b. option_map (λ r. cond b (carried x r) r) (get t.orders k)) (not_taken k is.1.0)
      ∙ same (get t.orders k))
  none_taken_yet (key.OrderLine k) is =
      ap (option_map line_words) (line_row_after t x 0 k ∙ ap (λ b. option_map (λ r. cond b (dated x r) r) (get t.lines k)) (not_taken (order_of k) is.1.0)
      ∙ same (get t.lines k))
  none_taken_yet (key.Stock h) is = refl
  none_taken_yet (key.Oldest k) is =
      ap (λ o. Some (number_words o))
      (oldest_left t x 0 k ∙ ap (λ o. unwrap_or (least (left_of o (numbers_in k t.new_orders))) (next_order t k)) (none_taken k is.1.0)
      ∙ ap (λ ns. unwrap_or (least ns) (next_order t k)) (all_left (numbers_in k t.new_orders)))
  none_taken_yet (key.Last c) is = ap (λ o. Some (number_words o)) (last_kept t x 0 c)
  none_taken_yet (key.CustomerData c) is = refl

-- before the first district
pub none_done : (t0 : Database) (x : DeliveryInput) (reads : ReadSetView) → AreDone t0 x 0 0 (record { reads = reads; writes = no_writes })
none_done t0 x reads t h = holds-changes t [] no_writes (row_at t) (with_oldest (after_districts t x 0) (after_districts t x 0)) (holds_first t) tt tt tt
    (λ j is _. of_one (after_districts t x 0) j ∙ none_taken_yet t x j is)

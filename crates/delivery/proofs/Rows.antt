-- One district more changes no record of another district.
use Rattle.std.proofs.Common.{◌≡◌, ℕ, Bool, false, not, cond, ◌==◌, Option, None, sym, ap, ◌∙◌}
use Rattle.std.specs.Option.{option_map, option_map_or, unwrap_or}
use Rattle.std.specs.FinMap.{get}
use Rattle.tables.specs.Keys.{order_of}
use Rattle.tables.specs.OrderNumbers.{least, numbers_in, next_order}
use Rattle.tables.specs.Database.{Database}
use Rattle.tables.specs.Rows.{row_at, customer_words, new_order_words, order_words, line_words, oldest}
use Rattle.tables.specs.Delivery.{carried, dated, after_taken}
use Rattle.delivery.specs.Steps.{taken_by, is_taken_by, after_districts}
use Rattle.tables.specs.declared.keys.DistrictKey.{DistrictKey}
use Rattle.tables.specs.declared.keys.CustomerKey.{CustomerKey}
use Rattle.tables.specs.declared.keys.OrderKey.{OrderKey}
use Rattle.tables.specs.declared.keys.LineKey.{LineKey}
use Rattle.tables.specs.declared.delivery.DeliveryInput.{DeliveryInput}
use Rattle.tables.specs.declared.records.RecordKey.TheVariants as key
use Rattle.tables.proofs.Orders.{exact_customer, exact_order, exact_line}
use Rattle.tables_laws.proofs.Updates.{get-map_rows}
use Rattle.tables_laws.proofs.Retained.{get-retained}
use Rattle.tables_laws.proofs.NumbersLeft.{is_left, left_of}
use Rattle.tables_laws.proofs.DistrictNumbers.{numbers-retained}
use Rattle.tables_laws.proofs.Touched.{district_named}

-- the district of a customer, of an order and of a line
abbrev pub customer_home : CustomerKey → DistrictKey
customer_home k = record { warehouse = k.warehouse; district = k.district }

abbrev pub order_home : OrderKey → DistrictKey
order_home k = record { warehouse = k.warehouse; district = k.district }

module _ (t : Database) (x : DeliveryInput) (n : ℕ) where
  -- ---- the rows once the first n districts are done
  pub customer_row : (k : CustomerKey) → get (after_districts t x n).customers k ≡ option_map (after_taken t k (taken_by t x n (customer_home k)))
      (get t.customers k)
  customer_row k = get-map_rows exact_customer (λ c r. after_taken t c (taken_by t x n (customer_home c)) r) t.customers k

  pub new_order_row : (k : OrderKey) → get (after_districts t x n).new_orders k ≡ cond (not (is_taken_by t x n k)) (get t.new_orders k) None
  new_order_row k = get-retained exact_order t.new_orders (λ k. not (is_taken_by t x n k)) k

  pub order_row : (k : OrderKey) → get (after_districts t x n).orders k ≡ option_map (λ r. cond (is_taken_by t x n k) (carried x r) r) (get t.orders k)
  order_row k = get-map_rows exact_order (λ k r. cond (is_taken_by t x n k) (carried x r) r) t.orders k

  pub line_row_after : (k : LineKey) → get (after_districts t x n).lines k ≡ option_map (λ r. cond (is_taken_by t x n (order_of k)) (dated x r) r)
      (get t.lines k)
  line_row_after k = get-map_rows exact_line (λ k r. cond (is_taken_by t x n (order_of k)) (dated x r) r) t.lines k

  -- the numbers of a district's NEW-ORDER rows
  pub numbers_left : (k : DistrictKey) → numbers_in k (after_districts t x n).new_orders ≡ left_of (taken_by t x n k) (numbers_in k t.new_orders)
  numbers_left k = numbers-retained k (λ j. not (is_taken_by t x n j)) (taken_by t x n k)
      (λ j within. ap (λ (h : DistrictKey). is_left (taken_by t x n h) j.order) (district_named j.warehouse j.district k within)) t.new_orders

  pub oldest_left : (k : DistrictKey) → oldest (after_districts t x n) k ≡ unwrap_or (least (left_of (taken_by t x n k) (numbers_in k t.new_orders)))
      (next_order t k)
  oldest_left k = ap (λ ns. unwrap_or (least ns) (next_order t k)) (numbers_left k)

-- where the same orders are taken in a district, its records are the same
module _ (t : Database) (x : DeliveryInput) (n m : ℕ) where
  pub same_customer : (k : CustomerKey) → taken_by t x n (customer_home k) ≡ taken_by t x m (customer_home k)
      → row_at (after_districts t x n) (key.Customer k) ≡ row_at (after_districts t x m) (key.Customer k)
  same_customer k same = ap (option_map customer_words) (customer_row t x n k ∙ ap (λ o. option_map (after_taken t k o) (get t.customers k)) same
      ∙ sym (customer_row t x m k))

  abbrev takes : Option ℕ → OrderKey → Bool
  takes o k = option_map_or (λ q. q == k.order) o false

  pub same_new_order : (k : OrderKey) → taken_by t x n (order_home k) ≡ taken_by t x m (order_home k)
      → row_at (after_districts t x n) (key.NewOrder k) ≡ row_at (after_districts t x m) (key.NewOrder k)
  same_new_order k same = ap (option_map new_order_words) (new_order_row t x n k ∙ ap (λ o. cond (not (takes o k)) (get t.new_orders k) None) same
      ∙ sym (new_order_row t x m k))

  pub same_order : (k : OrderKey) → taken_by t x n (order_home k) ≡ taken_by t x m (order_home k)
      → row_at (after_districts t x n) (key.Order k) ≡ row_at (after_districts t x m) (key.Order k)
  same_order k same = ap (option_map order_words) (order_row t x n k ∙ ap (λ o. option_map (λ r. cond (takes o k) (carried x r) r) (get t.orders k)) same
      ∙ sym (order_row t x m k))

  pub same_line : (k : LineKey) → taken_by t x n (order_home (order_of k)) ≡ taken_by t x m (order_home (order_of k))
      → row_at (after_districts t x n) (key.OrderLine k) ≡ row_at (after_districts t x m) (key.OrderLine k)
  same_line k same = ap (option_map line_words)
      (line_row_after t x n k ∙ ap (λ o. option_map (λ r. cond (takes o (order_of k)) (dated x r) r) (get t.lines k)) same ∙ sym (line_row_after t x m k))

  pub same_oldest : (k : DistrictKey) → taken_by t x n k ≡ taken_by t x m k → oldest (after_districts t x n) k ≡ oldest (after_districts t x m) k
  same_oldest k same = oldest_left t x n k ∙ ap (λ o. unwrap_or (least (left_of o (numbers_in k t.new_orders))) (next_order t k)) same
      ∙ sym (oldest_left t x m k)

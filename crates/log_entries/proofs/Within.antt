-- The rows of well-formed tables stand in the ranges of their columns in a log file.
use Rattle.std.proofs.Common.{◌≡◌, ℕ, zero, suc, ◌+◌, ◌^◌, ◌<◌, ◌≤◌, ℤ, pos, neg_ℤ, ◌≤ℤ◌, min, Bool, true, false, ◌&&◌, cond, List, [], ◌∷◌, replicate}
use Rattle.std.proofs.Common.{Option, Some, None, IsSome, refl, sym, ap, ◌∙◌, subst, arith}
use Rattle.std.specs.Prelude.{int_le}
use Rattle.std.specs.Option.{option_map, option_map_or, unwrap_or, ForSome}
use Rattle.std.specs.FinMap.{get}
use Rattle.std.proofs.lemmas.Bool.{and_from, lt-ltb, true≢false}
use Rattle.std.proofs.lemmas.Int.{ints}
use Rattle.std.proofs.lemmas.Option.{none-some, same_Some}
use Rattle.money.specs.declared.cents.TheConstants.{MAX_MONEY}
use Rattle.tables.specs.Sizes.{Sizes, IsScale, IsBetween, IsNumber}
use Rattle.tables.specs.Database.{Database}
use Rattle.tables.specs.OrderNumbers.{least, greatest, numbers_in, next_order}
use Rattle.tables.specs.Records.{narrow_count, key_at, table_at, place_at, district_at, customer_at, order_at, IsNarrowKey, IsRecordKey}
use Rattle.tables.specs.Rows.{money_word, money_of, row_at, rows, oldest, last, warehouse_words, district_words, customer_words, order_words, line_words}
use Rattle.tables.specs.Rows.{new_order_words, stock_words}
use Rattle.tables.specs.WellFormed.{IsWellFormed, IsMoney, IsDistrictRow, IsCustomerRow, IsHistoryRow, IsOrderRow, IsLineRow, IsStockRow, orderer}
use Rattle.tables.specs.declared.limits.TheConstants.{MAX_DATE, MAX_CARRIER, MAX_COUNT, MAX_QUANTITY, MAX_STOCK, MAX_LINE_AMOUNT, MIN_STOCK}
use Rattle.tables.specs.declared.limits.TheConstants.{MIN_ORDER_LINES, MAX_ORDER_LINES, MIN_PAYMENT, MAX_PAYMENT}
use Rattle.tables.specs.declared.keys.DistrictKey.{DistrictKey}
use Rattle.tables.specs.declared.keys.CustomerKey.{CustomerKey}
use Rattle.tables.specs.declared.rows.Warehouse.{Warehouse}
use Rattle.tables.specs.declared.rows.District.{District}
use Rattle.tables.specs.declared.rows.Customer.{Customer}
use Rattle.tables.specs.declared.rows.History.{History}
use Rattle.tables.specs.declared.rows.Order.{Order}
use Rattle.tables.specs.declared.rows.OrderLine.{OrderLine}
use Rattle.tables.specs.declared.rows.Stock.{Stock}
use Rattle.tables.specs.declared.records.Table.{Table}
use Rattle.tables.specs.declared.records.Table.TheVariants as table
use Rattle.tables.specs.declared.records.RecordKey.TheVariants as key
use Rattle.tables.proofs.Numbers.{narrow_numbered}
use Rattle.tables.proofs.OrderNumbers.{greatest-within, least-within}
use Rattle.log_text.specs.Columns.{span, money_range, ranges, is_within, are_within}
use Rattle.log_entries.specs.Logged.{history_words}

-- ---- a word in its range
number_back : (n : ℕ) → n < 2 ^ 63 → money_of n ≡ pos n
number_back n h = omega (arith, ints)

le_test : (a b : ℤ) → a ≤ℤ b → int_le a b ≡ true
le_test a b h = grind (arith, ints)

is_number : (low high n : ℕ) → IsBetween low high n → high < 2 ^ 63 → is_within (span low high) n ≡ true
is_number low high n h small =
    let same = number_back n (omega (arith, h.1, small)) in
    and_from _ _ (lt-ltb n (2 ^ 64) (omega (arith, h.1, small)))
    (and_from _ _ (ap (int_le (pos low)) same ∙ le_test (pos low) (pos n) (omega (arith, ints, h.0)))
    (ap (λ z. int_le z (pos high)) same ∙ le_test (pos n) (pos high) (omega (arith, ints, h.1))))

amount_back : (z : ℤ) → IsMoney z → money_of (money_word z) ≡ z
amount_back z h = omega (arith, ints)

amount_small : (z : ℤ) → IsMoney z → money_word z < 2 ^ 64
amount_small z h = omega (arith, ints)

is_amount : (low high z : ℤ) → IsMoney z → low ≤ℤ z → z ≤ℤ high → is_within (record { low = low; high = high }) (money_word z) ≡ true
is_amount low high z is above under =
    let same = amount_back z is in
    and_from _ _ (lt-ltb (money_word z) (2 ^ 64) (amount_small z is))
    (and_from _ _ (ap (int_le low) same ∙ le_test low z above) (ap (λ y. int_le y high) same ∙ le_test z high under))

-- one word more
with_word : {a b : Bool} → a ≡ true → b ≡ true → a && b ≡ true
with_word {a} {b} h k = and_from a b h k

zeros : (n : ℕ) → are_within (replicate n (span 0 0)) (replicate n 0) ≡ true
zeros zero = refl
zeros (suc n) = with_word (is_number 0 0 0 (omega arith, omega arith) (omega arith)) (zeros n)

is_money : (z : ℤ) → IsMoney z → is_within money_range (money_word z) ≡ true
is_money z h = is_amount (neg_ℤ MAX_MONEY) MAX_MONEY z h h.0 h.1

-- a number that may be null, which is 0 then
is_nullable : (high : ℕ) (o : Option ℕ) → ForSome o (λ n. IsNumber high n) → IsBetween 0 high (unwrap_or o 0)
is_nullable high None h = (omega arith, omega arith)
is_nullable high (Some n) h = (omega arith, (h n refl).1)

is_flag : (b : Bool) → IsBetween 0 1 (cond b 1 0)
is_flag true = (omega arith, omega arith)
is_flag false = (omega arith, omega arith)

-- ---- the words of a row
module _ (s : Sizes) (is : IsScale s) where
  warehouse_within : (r : Warehouse) → IsMoney r.year_to_date → are_within (ranges s table.Warehouse) (warehouse_words r) ≡ true
  warehouse_within r h = with_word (is_money r.year_to_date h) (zeros 6)

  district_within : (r : District) → IsDistrictRow s r → are_within (ranges s table.District) (district_words r) ≡ true
  district_within r h = with_word (is_money r.year_to_date h.year_to_date)
      (with_word (is_number 1 (s.orders + 1) r.next_order h.next_order (omega (arith, is.orders.1))) (zeros 5))

  customer_within : (r : Customer) → IsCustomerRow r → are_within (ranges s table.Customer) (customer_words r) ≡ true
  customer_within r h = with_word (is_money r.balance h.balance)
      (with_word (is_money r.paid h.paid)
      (with_word (is_number 0 MAX_COUNT r.payments (omega arith, h.payments) (omega arith))
      (with_word (is_number 0 MAX_COUNT r.deliveries (omega arith, h.deliveries) (omega arith)) (zeros 3))))

  pub history_within : (r : History) → IsHistoryRow s r → are_within (ranges s table.History) (history_words r) ≡ true
  history_within r h =
      let districts : s.districts < 2 ^ 63 = omega (arith, is.districts.1) in
      let warehouses : s.warehouses < 2 ^ 63 = omega (arith, is.warehouses.1) in
      with_word (is_number 1 s.customers r.customer h.customer (omega (arith, is.customers.1)))
      (with_word (is_number 1 s.districts r.customer_district h.customer_district districts)
      (with_word (is_number 1 s.warehouses r.customer_warehouse h.customer_warehouse warehouses)
      (with_word (is_number 1 s.districts r.district h.district districts)
      (with_word (is_number 1 s.warehouses r.warehouse h.warehouse warehouses)
      (with_word (is_number 1 MAX_DATE r.date h.date (omega arith))
      (with_word (is_amount MIN_PAYMENT MAX_PAYMENT r.amount (payment r.amount h.at_least h.at_most) h.at_least h.at_most) (zeros 0)))))))
    where
      payment : (z : ℤ) → MIN_PAYMENT ≤ℤ z → z ≤ℤ MAX_PAYMENT → IsMoney z
      payment z low high = (omega (arith, ints), omega (arith, ints))

  order_within : (r : Order) → IsOrderRow r → IsNumber s.customers r.customer → are_within (ranges s table.Order) (order_words r) ≡ true
  order_within r h customer = with_word (is_number 1 s.customers r.customer customer (omega (arith, is.customers.1)))
      (with_word (is_number 1 MAX_DATE r.entry_date h.entry_date (omega arith))
      (with_word (is_number 0 MAX_CARRIER (unwrap_or r.carrier 0) (is_nullable MAX_CARRIER r.carrier h.carrier) (omega arith))
      (with_word (is_number MIN_ORDER_LINES MAX_ORDER_LINES r.line_count h.line_count (omega arith))
      (with_word (is_number 0 1 (cond r.all_local 1 0) (is_flag r.all_local) (omega arith)) (zeros 2)))))

  line_within : (r : OrderLine) → IsLineRow s r → are_within (ranges s table.OrderLine) (line_words r) ≡ true
  line_within r h = with_word (is_number 1 s.items r.item h.item (omega (arith, is.items.1)))
      (with_word (is_number 1 s.warehouses r.supply_warehouse h.supply_warehouse (omega (arith, is.warehouses.1)))
      (with_word (is_number 0 MAX_DATE (unwrap_or r.delivery_date 0) (is_nullable MAX_DATE r.delivery_date h.delivery_date) (omega arith))
      (with_word (is_number 1 MAX_QUANTITY r.quantity h.quantity (omega arith))
      (with_word (is_amount (pos 0) MAX_LINE_AMOUNT r.amount (priced r.amount h.at_least h.at_most) h.at_least h.at_most) (zeros 2)))))
    where
      priced : (z : ℤ) → pos 0 ≤ℤ z → z ≤ℤ MAX_LINE_AMOUNT → IsMoney z
      priced z low high = (omega (arith, ints), omega (arith, ints))

  stock_within : (r : Stock) → IsStockRow r → are_within (ranges s table.Stock) (stock_words r) ≡ true
  stock_within r h = with_word (is_number MIN_STOCK MAX_STOCK r.quantity h.quantity (omega arith))
      (with_word (is_number 0 MAX_COUNT r.year_to_date (omega arith, h.year_to_date) (omega arith))
      (with_word (is_number 0 MAX_COUNT r.orders (omega arith, h.orders) (omega arith))
      (with_word (is_number 0 MAX_COUNT r.remote_orders (omega arith, h.remote_orders) (omega arith)) (zeros 3))))

-- ---- what well-formed tables hold
-- where there are words there is their row
of_row : {X : Type 0} (words : X → List ℕ) (P : List ℕ → Type 0) (o : Option X) (ws : List ℕ) → option_map words o ≡ Some ws
    → ((r : X) → o ≡ Some r → P (words r)) → P ws
of_row words P None ws e each = absurd (none-some ws e)
of_row words P (Some r) ws e each = subst P (same_Some _ _ e) (each r refl)

some_of : {X : Type 0} (o : Option X) (r : X) → o ≡ Some r → IsSome o
some_of o r e = subst IsSome (sym e) refl

least_up_to : (high : ℕ) (ns : List ℕ) → greatest ns ≤ high → (x : ℕ) → least ns ≡ Some x → x ≤ high
least_up_to high [] h x e = absurd (none-some x e)
least_up_to high (n ∷ ns) h x e = subst (λ y. y ≤ high) (same_Some _ _ e) (under (least ns))
  where
    under : (o : Option ℕ) → option_map_or (min n) o n ≤ high
    under None = omega (arith, h)
    under (Some y) = omega (arith, h)

module _ (t : Database) (wf : IsWellFormed t) (is : IsScale t.scale) where
  next_is : (k : DistrictKey) → IsRecordKey t.scale (key.Oldest k) → IsNumber (t.scale.orders + 1) (next_order t k)
  next_is k h = found (get t.districts k) refl ((wf.districts k).1 h)
    where
      found : (o : Option District) → get t.districts k ≡ o → IsSome o → IsNumber (t.scale.orders + 1) (option_map_or (λ r. r.next_order) o 0)
      found None e some = absurd (true≢false (sym some))
      found (Some r) e some = (wf.district_rows k r e).next_order

  oldest_is : (k : DistrictKey) → IsRecordKey t.scale (key.Oldest k) → IsNumber (t.scale.orders + 1) (oldest t k)
  oldest_is k h = of_least (least (numbers_in k t.new_orders)) refl
    where
      most : greatest (numbers_in k t.new_orders) ≤ t.scale.orders
      most = greatest-within _ t.scale.orders t.new_orders (λ j r found _. (wf.new_orders j (some_of _ r found)).2.1)

      of_least : (o : Option ℕ) → least (numbers_in k t.new_orders) ≡ o → IsNumber (t.scale.orders + 1) (unwrap_or o (next_order t k))
      of_least None e = next_is k h
      of_least (Some x) e = (
        least-within _ 1 t.new_orders (λ j r found _. (wf.new_orders j (some_of _ r found)).2.0) x e,
        omega (arith, least_up_to t.scale.orders (numbers_in k t.new_orders) most x e),
      )

  last_is : (k : CustomerKey) → last t k ≤ t.scale.orders
  last_is k = greatest-within _ t.scale.orders t.orders (λ j r found _. (wf.orders j (some_of _ r found)).2.1)

  row_within : (u : Table) (p : ℕ) → IsNarrowKey t.scale (key_at t.scale u p) → (words : List ℕ) → row_at t (key_at t.scale u p) ≡ Some words
      → are_within (ranges t.scale u) words ≡ true
  row_within table.Warehouse p h words e =
      of_row warehouse_words (λ ws. are_within (ranges t.scale table.Warehouse) ws ≡ true) _ words e
      (λ r found. warehouse_within t.scale is r (wf.warehouse_rows _ r found))
  row_within table.District p h words e = of_row district_words (λ ws. are_within (ranges t.scale table.District) ws ≡ true) _ words e
      (λ r found. district_within t.scale is r (wf.district_rows _ r found))
  row_within table.Customer p h words e = of_row customer_words (λ ws. are_within (ranges t.scale table.Customer) ws ≡ true) _ words e
      (λ r found. customer_within t.scale is r (wf.customer_rows _ r found))
  row_within table.History p h words e = absurd (omega (arith, h.0))
  row_within table.NewOrder p h words e = of_row new_order_words (λ ws. are_within (ranges t.scale table.NewOrder) ws ≡ true) _ words e
      (λ r found. zeros 7)
  row_within table.Order p h words e = of_row order_words (λ ws. are_within (ranges t.scale table.Order) ws ≡ true) _ words e
      (λ r found. let k = order_at t.scale p in
      order_within t.scale is r (wf.order_rows k r found) ((wf.customers (orderer k r)).0 (wf.order_customers k r found)).2)
  row_within table.OrderLine p h words e = of_row line_words (λ ws. are_within (ranges t.scale table.OrderLine) ws ≡ true) _ words e
      (λ r found. line_within t.scale is r (wf.line_rows _ r found))
  row_within table.Item p h words e = absurd (omega (arith, h.0))
  row_within table.Stock p h words e = of_row stock_words (λ ws. are_within (ranges t.scale table.Stock) ws ≡ true) _ words e
      (λ r found. stock_within t.scale is r (wf.stock_rows _ r found))
  row_within table.Oldest p h words e = subst (λ ws. are_within (ranges t.scale table.Oldest) ws ≡ true) (same_Some _ _ e)
      (with_word (is_number 1 (t.scale.orders + 1) (oldest t (district_at t.scale p)) (oldest_is (district_at t.scale p) h) (omega (arith, is.orders.1)))
      (zeros 6))
  row_within table.Last p h words e = subst (λ ws. are_within (ranges t.scale table.Last) ws ≡ true) (same_Some _ _ e)
      (with_word (is_number 0 t.scale.orders (last t (customer_at t.scale p)) (omega arith, last_is (customer_at t.scale p)) (omega (arith, is.orders.1)))
      (zeros 6))
  row_within table.CustomerData p h words e = absurd h

  -- what a record holds stands in the ranges of its table's columns
  pub rows_within : (n : ℕ) → n < narrow_count t.scale → (words : List ℕ) → rows t n ≡ Some words
      → are_within (ranges t.scale (table_at t.scale n)) words ≡ true
  rows_within n h words e = row_within (table_at t.scale n) (place_at t.scale n) (narrow_numbered t.scale n h) words e

-- The key of the least record is the least key.
use Rattle.std.proofs.Common.{◌≡◌, ℕ, ◌+◌, ◌-◌, ◌*◌, ◌<◌, ◌≤◌, ◌⊎◌, inl, inr, Option, Some, None, IsNone, IsSome, is_some, true≢false, refl, sym, ap, ◌∙◌, subst, arith}
use Rattle.std.proofs.lemmas.Nat.{mul-le}
use Rattle.std.specs.Option.{ForSome}
use Rattle.std.specs.Ordering.{nat_cmp, ordering_then}
use Rattle.std.specs.FinMap.{get}
use Rattle.std.specs.declared.cmp.Ordering.{Ordering}
use Rattle.std.specs.declared.cmp.Ordering.TheVariants.{Less, Equal, Greater}
use Rattle.tables.specs.Sizes.{Sizes, IsNumber}
use Rattle.tables.specs.Keys.{district_cmp, customer_cmp, order_cmp, line_cmp, IsWarehouseKey, IsDistrictKey, IsCustomerKey, IsOrderKey, IsLineKey, order_of}
use Rattle.tables.specs.Records.{number_of_key, narrow_count, IsNarrowKey, IsRecordKey, district_place, customer_place, order_place}
use Rattle.tables.specs.Conditions.{Condition7At, IsConsistent}
use Rattle.tables.specs.Database.{Database}
use Rattle.tables.specs.declared.limits.TheConstants.{MAX_ORDER_LINES}
use Rattle.tables.specs.declared.keys.DistrictKey.{DistrictKey}
use Rattle.tables.specs.declared.keys.CustomerKey.{CustomerKey}
use Rattle.tables.specs.declared.keys.OrderKey.{OrderKey}
use Rattle.tables.specs.declared.keys.LineKey.{LineKey}
use Rattle.tables.specs.declared.rows.Order.{Order}
use Rattle.tables.specs.declared.records.RecordKey.{RecordKey}
use Rattle.tables.specs.declared.records.RecordKey.TheVariants as key
use Rattle.tables.proofs.Numbers.{narrow_named, of_narrow}
use Rattle.conditions.specs.Finds.{FindsLeast}
use Rattle.conditions.specs.Report.{IsReportOf, IsGood}
use Rattle.conditions.specs.declared.report.Report.{Report}
use Rattle.tables.specs.WellFormed.{IsWellFormed}
use Rattle.totals_report.specs.Found.{IsLeastBroken, IsFound}

-- what was found of all records is the least of the keys that a condition is asked of
module _ {K : Type 0} (R : K → K → Ordering) (c : K → RecordKey) (s : Sizes) (IsKey HoldsAt : K → Type 0)
    (within : (k : K) → IsKey k → IsNarrowKey s (c k)) (back : (k : K) → IsRecordKey s (c k) → (HoldsAt k → ⊥) → IsKey k)
    (rises : (j k : K) → IsRecordKey s (c j) → IsRecordKey s (c k) → R j k ≡ Less → number_of_key s (c j) < number_of_key s (c k)) where
  least_of_all : (r : Option K) → IsLeastBroken c s HoldsAt (narrow_count s) r → FindsLeast R IsKey HoldsAt r
  least_of_all None found = λ k is. found k (of_narrow s (c k) (within k is)) (narrow_named s (c k) (within k is))
  least_of_all (Some k) found = (back k found.0 found.1, found.1, λ j is less. found.2 j (of_narrow s (c j) (within j is)) (rises j k (of_narrow s (c j) (within j is)) found.0 less))

-- ---- the order of keys is that of their records
-- column by column
first_less : (a b : Ordering) → ordering_then a b ≡ Less → (a ≡ Less) ⊎ ((a ≡ Equal) × (b ≡ Less))
first_less Less b e = inl refl
first_less Equal b e = inr (refl, e)
first_less Greater b e = absurd cc

number_less : (m n : ℕ) → nat_cmp m n ≡ Less → m < n
number_less m n e = grind (arith, e)

number_same : (m n : ℕ) → nat_cmp m n ≡ Equal → m ≡ n
number_same m n e = grind (arith, e)

less_by_one : (m n : ℕ) → 1 ≤ m → m < n → m - 1 < n - 1
less_by_one m n h k = omega (arith, h, k)

-- a row before another, at any columns
row_before : (width m n x y : ℕ) → m < n → IsNumber width x → m * width + (x - 1) < n * width + (y - 1)
row_before width m n x y less col =
    let rows : (m + 1) * width ≤ n * width = mul-le (m + 1) width n width (omega (arith, less)) (omega arith) in
    under (m * width) ((m + 1) * width) (n * width) width x y rows (next m width) col.0 col.1
  where
    next : (m width : ℕ) → (m + 1) * width ≡ m * width + width
    next m width = grind arith

    under : (a b c width x y : ℕ) → b ≤ c → b ≡ a + width → 1 ≤ x → x ≤ width → a + (x - 1) < c + (y - 1)
    under a b c width x y h e low high = omega (arith, h, e, low, high)

-- a column before another, of rows that are one
column_before : (width m n x y : ℕ) → m ≡ n → 1 ≤ x → x < y → m * width + (x - 1) < n * width + (y - 1)
column_before width m n x y same h less = subst (λ p. m * width + (x - 1) < p * width + (y - 1)) same (above (m * width) x y h less)
  where
    above : (a x y : ℕ) → 1 ≤ x → x < y → a + (x - 1) < a + (y - 1)
    above a x y h less = omega (arith, h, less)

behind : (first p q : ℕ) → p < q → first + p < first + q
behind first p q h = omega (arith, h)

rises_warehouse : (s : Sizes) (j k : ℕ) → IsWarehouseKey s j → nat_cmp j k ≡ Less → number_of_key s (key.Warehouse j) < number_of_key s (key.Warehouse k)
rises_warehouse s j k is e = behind _ (j - 1) (k - 1) (less_by_one j k is.0 (number_less j k e))

module _ (s : Sizes) where
  district_rises : (j k : DistrictKey) → IsDistrictKey s j → district_cmp j k ≡ Less
      → district_place s j.warehouse j.district < district_place s k.warehouse k.district
  district_rises j k is e = either (first_less _ _ e)
    where
      either : (nat_cmp j.warehouse k.warehouse ≡ Less) ⊎ ((nat_cmp j.warehouse k.warehouse ≡ Equal) × (nat_cmp j.district k.district ≡ Less))
          → district_place s j.warehouse j.district < district_place s k.warehouse k.district
      either (inl less) = row_before s.districts (j.warehouse - 1) (k.warehouse - 1) j.district k.district
          (less_by_one j.warehouse k.warehouse is.0.0 (number_less j.warehouse k.warehouse less)) is.1
      either (inr same) = column_before s.districts (j.warehouse - 1) (k.warehouse - 1) j.district k.district
          (ap (λ w. w - 1) (number_same j.warehouse k.warehouse same.0)) is.1.0 (number_less j.district k.district same.1)

  -- keys of three columns, or four: by the first two, or by the rest
  district_first : (a b c d : ℕ) (rest : Ordering) → ordering_then (nat_cmp a b) (ordering_then (nat_cmp c d) rest) ≡ Less
      → (ordering_then (nat_cmp a b) (nat_cmp c d) ≡ Less) ⊎ ((a ≡ b) × (c ≡ d) × (rest ≡ Less))
  district_first a b c d rest e = either (first_less _ _ e)
    where
      either : (nat_cmp a b ≡ Less) ⊎ ((nat_cmp a b ≡ Equal) × (ordering_then (nat_cmp c d) rest ≡ Less))
          → (ordering_then (nat_cmp a b) (nat_cmp c d) ≡ Less) ⊎ ((a ≡ b) × (c ≡ d) × (rest ≡ Less))
      either (inl less) = inl (ap (λ r. ordering_then r (nat_cmp c d)) less)
      either (inr same) = second (first_less _ _ same.1)
        where
          second : (nat_cmp c d ≡ Less) ⊎ ((nat_cmp c d ≡ Equal) × (rest ≡ Less))
              → (ordering_then (nat_cmp a b) (nat_cmp c d) ≡ Less) ⊎ ((a ≡ b) × (c ≡ d) × (rest ≡ Less))
          second (inl less) = inl (ap (λ r. ordering_then r (nat_cmp c d)) same.0 ∙ less)
          second (inr equal) = inr (number_same a b same.0, number_same c d equal.0, equal.1)

  customer_rises : (j k : CustomerKey) → IsCustomerKey s j → customer_cmp j k ≡ Less → customer_place s j < customer_place s k
  customer_rises j k is e = either (district_first _ _ _ _ _ e)
    where
      either : (ordering_then (nat_cmp j.warehouse k.warehouse) (nat_cmp j.district k.district) ≡ Less)
          ⊎ ((j.warehouse ≡ k.warehouse) × (j.district ≡ k.district) × (nat_cmp j.customer k.customer ≡ Less)) → customer_place s j < customer_place s k
      either (inl less) = row_before s.customers _ _ j.customer k.customer
          (district_rises (record { warehouse = j.warehouse; district = j.district }) (record { warehouse = k.warehouse; district = k.district }) (is.0, is.1) less) is.2
      either (inr same) = column_before s.customers _ _ j.customer k.customer
          (λ i. district_place s (same.0 i) (same.1 i)) is.2.0 (number_less j.customer k.customer same.2)

  order_rises : (j k : OrderKey) → IsOrderKey s j → order_cmp j k ≡ Less → order_place s j < order_place s k
  order_rises j k is e = either (district_first _ _ _ _ _ e)
    where
      either : (ordering_then (nat_cmp j.warehouse k.warehouse) (nat_cmp j.district k.district) ≡ Less)
          ⊎ ((j.warehouse ≡ k.warehouse) × (j.district ≡ k.district) × (nat_cmp j.order k.order ≡ Less)) → order_place s j < order_place s k
      either (inl less) = row_before s.orders _ _ j.order k.order
          (district_rises (record { warehouse = j.warehouse; district = j.district }) (record { warehouse = k.warehouse; district = k.district }) (is.0, is.1) less) is.2
      either (inr same) = column_before s.orders _ _ j.order k.order
          (λ i. district_place s (same.0 i) (same.1 i)) is.2.0 (number_less j.order k.order same.2)

  -- lines by their orders first
  order_first : (j k : LineKey) → line_cmp j k ≡ Less → (order_cmp (order_of j) (order_of k) ≡ Less) ⊎ ((order_of j ≡ order_of k) × (nat_cmp j.line k.line ≡ Less))
  order_first j k e = either (first_less _ _ e)
    where
      to_order : (r q : Ordering) → r ≡ q → ordering_then r (ordering_then (nat_cmp j.district k.district) (nat_cmp j.order k.order))
          ≡ ordering_then q (ordering_then (nat_cmp j.district k.district) (nat_cmp j.order k.order))
      to_order r q e = ap (λ r. ordering_then r (ordering_then (nat_cmp j.district k.district) (nat_cmp j.order k.order))) e

      third : nat_cmp j.warehouse k.warehouse ≡ Equal → nat_cmp j.district k.district ≡ Equal
          → (nat_cmp j.order k.order ≡ Less) ⊎ ((nat_cmp j.order k.order ≡ Equal) × (nat_cmp j.line k.line ≡ Less))
          → (order_cmp (order_of j) (order_of k) ≡ Less) ⊎ ((order_of j ≡ order_of k) × (nat_cmp j.line k.line ≡ Less))
      third w d (inl less) = inl (to_order _ Equal w ∙ ap (λ r. ordering_then r (nat_cmp j.order k.order)) d ∙ less)
      third w d (inr same) = inr (
        (λ i. record {
          warehouse = number_same j.warehouse k.warehouse w i;
          district = number_same j.district k.district d i;
          order = number_same j.order k.order same.0 i;
        }),
        same.1,
      )

      second : nat_cmp j.warehouse k.warehouse ≡ Equal
          → (nat_cmp j.district k.district ≡ Less) ⊎ ((nat_cmp j.district k.district ≡ Equal) × (ordering_then (nat_cmp j.order k.order) (nat_cmp j.line k.line) ≡ Less))
          → (order_cmp (order_of j) (order_of k) ≡ Less) ⊎ ((order_of j ≡ order_of k) × (nat_cmp j.line k.line ≡ Less))
      second w (inl less) = inl (to_order _ Equal w ∙ ap (λ r. ordering_then r (nat_cmp j.order k.order)) less)
      second w (inr same) = third w same.0 (first_less _ _ same.1)

      either : (nat_cmp j.warehouse k.warehouse ≡ Less) ⊎ ((nat_cmp j.warehouse k.warehouse ≡ Equal)
          × (ordering_then (nat_cmp j.district k.district) (ordering_then (nat_cmp j.order k.order) (nat_cmp j.line k.line)) ≡ Less))
          → (order_cmp (order_of j) (order_of k) ≡ Less) ⊎ ((order_of j ≡ order_of k) × (nat_cmp j.line k.line ≡ Less))
      either (inl less) = inl (to_order _ Less less)
      either (inr same) = second same.0 (first_less _ _ same.1)

  line_rises : (j k : LineKey) → IsLineKey s j → line_cmp j k ≡ Less
      → order_place s (order_of j) * MAX_ORDER_LINES + (j.line - 1) < order_place s (order_of k) * MAX_ORDER_LINES + (k.line - 1)
  line_rises j k is e = either (order_first j k e)
    where
      either : (order_cmp (order_of j) (order_of k) ≡ Less) ⊎ ((order_of j ≡ order_of k) × (nat_cmp j.line k.line ≡ Less))
          → order_place s (order_of j) * MAX_ORDER_LINES + (j.line - 1) < order_place s (order_of k) * MAX_ORDER_LINES + (k.line - 1)
      either (inl less) = row_before MAX_ORDER_LINES _ _ j.line k.line (order_rises (order_of j) (order_of k) (is.0, is.1, is.2) less) is.3
      either (inr same) = column_before MAX_ORDER_LINES _ _ j.line k.line (ap (order_place s) same.0) is.3.0 (number_less j.line k.line same.1)

-- a row that breaks a condition is there
some_row : {X : Type 0} (P : X → Type 0) (w : Option X) → (ForSome w P → ⊥) → IsSome w
some_row P None broken = absurd (broken (λ x e. absurd (true≢false (sym (ap is_some e)))))
some_row P (Some r) broken = refl

-- the report
pub report_of_all : (t : Database) → IsWellFormed t → (r : Report) → IsFound t (narrow_count t.scale) r → IsReportOf t r
report_of_all t wf r found = record {
  condition_1 = warehouses _ r.condition_1 found.warehouses.condition_1;
  condition_2 = districts _ r.condition_2 found.districts.condition_2;
  condition_3 = districts _ r.condition_3 found.districts.condition_3;
  condition_4 = districts _ r.condition_4 found.districts.condition_4;
  condition_5 = orders _ r.condition_5 found.orders.condition_5;
  condition_6 = orders _ r.condition_6 found.orders.condition_6;
  condition_7 = least_of_all line_cmp key.OrderLine t.scale (λ k. IsSome (get t.lines k)) (Condition7At t) wf.lines
      (λ k is broken. some_row _ (get t.lines k) broken) (λ j k at_j at_k e. behind _ _ _ (line_rises t.scale j k at_j e)) r.condition_7 found.lines.condition_7;
  condition_8 = warehouses _ r.condition_8 found.warehouses.condition_8;
  condition_9 = districts _ r.condition_9 found.districts.condition_9;
  condition_10 = customers _ r.condition_10 found.customers.condition_10;
  condition_12 = customers _ r.condition_12 found.customers.condition_12;
}
  where
    warehouses : (H : ℕ → Type 0) (r : Option ℕ) → IsLeastBroken key.Warehouse t.scale H (narrow_count t.scale) r → FindsLeast nat_cmp (IsWarehouseKey t.scale) H r
    warehouses H = least_of_all nat_cmp key.Warehouse t.scale (IsWarehouseKey t.scale) H (λ k is. is) (λ k is broken. is)
        (λ j k at_j at_k e. rises_warehouse t.scale j k at_j e)

    districts : (H : DistrictKey → Type 0) (r : Option DistrictKey) → IsLeastBroken key.District t.scale H (narrow_count t.scale) r
        → FindsLeast district_cmp (IsDistrictKey t.scale) H r
    districts H = least_of_all district_cmp key.District t.scale (IsDistrictKey t.scale) H (λ k is. is) (λ k is broken. is)
        (λ j k at_j at_k e. behind _ _ _ (district_rises t.scale j k at_j e))

    customers : (H : CustomerKey → Type 0) (r : Option CustomerKey) → IsLeastBroken key.Customer t.scale H (narrow_count t.scale) r
        → FindsLeast customer_cmp (IsCustomerKey t.scale) H r
    customers H = least_of_all customer_cmp key.Customer t.scale (IsCustomerKey t.scale) H (λ k is. is) (λ k is broken. is)
        (λ j k at_j at_k e. behind _ _ _ (customer_rises t.scale j k at_j e))

    orders : (P : OrderKey → Order → Type 0) (r : Option OrderKey) → IsLeastBroken key.Order t.scale (λ k. ForSome (get t.orders k) (P k)) (narrow_count t.scale) r
        → FindsLeast order_cmp (λ k. IsSome (get t.orders k)) (λ k. ForSome (get t.orders k) (P k)) r
    orders P = least_of_all order_cmp key.Order t.scale (λ k. IsSome (get t.orders k)) (λ k. ForSome (get t.orders k) (P k)) wf.orders
        (λ k is broken. some_row _ (get t.orders k) broken) (λ j k at_j at_k e. behind _ _ _ (order_rises t.scale j k at_j e))

-- nothing is found where the condition holds at each key
none_found : {K : Type 0} (R : K → K → Ordering) (IsKey HoldsAt : K → Type 0) (r : Option K) → FindsLeast R IsKey HoldsAt r
    → ((k : K) → IsKey k → HoldsAt k) → IsNone r
none_found R IsKey HoldsAt None found all = refl
none_found R IsKey HoldsAt (Some k) found all = absurd (found.1 (all k found.0))

pub good_of_consistent : (t : Database) (r : Report) → IsConsistent t → IsReportOf t r → IsGood r
good_of_consistent t r con is = (
  none_found _ _ _ r.condition_1 is.condition_1 con.condition_1,
  none_found _ _ _ r.condition_2 is.condition_2 con.condition_2,
  none_found _ _ _ r.condition_3 is.condition_3 con.condition_3,
  none_found _ _ _ r.condition_4 is.condition_4 con.condition_4,
  none_found _ _ _ r.condition_5 is.condition_5 (λ k _. con.condition_5 k),
  none_found _ _ _ r.condition_6 is.condition_6 (λ k _. con.condition_6 k),
  none_found _ _ _ r.condition_7 is.condition_7 (λ k _. con.condition_7 k),
  none_found _ _ _ r.condition_8 is.condition_8 con.condition_8,
  none_found _ _ _ r.condition_9 is.condition_9 con.condition_9,
  none_found _ _ _ r.condition_10 is.condition_10 con.condition_10,
  none_found _ _ _ r.condition_12 is.condition_12 con.condition_12,
)

-- A seeded population is consistent (TPC-C 3.3.2).
use Rattle.std.proofs.Common.{◌≡◌, ℕ, ◌*◌, ℤ, pos, ◌+ℤ◌, ◌-ℤ◌, Bool, true, false, cond, ◌&&◌, ◌==◌, Option, Some, None, is_some, refl, sym, ap, ◌∙◌, arith}
use Rattle.std.specs.Cmp.{eq_by_cmp_equiv}
use Rattle.std.proofs.lemmas.Bool.Decides.{nat_tests}
use Rattle.tables.specs.Sizes.{Sizes}
use Rattle.tables.specs.Keys.{IsWarehouseKey, IsDistrictKey, IsCustomerKey, is_district, is_customer}
use Rattle.tables.specs.Maps.{sum_of, total}
use Rattle.tables.specs.Database.{Database}
use Rattle.tables.specs.Conditions.{delivered_amount, paid_by_customer, Condition1At, Condition8At, Condition9At, Condition10At, Condition12At, IsConsistent}
use Rattle.tables.specs.declared.keys.DistrictKey.{DistrictKey}
use Rattle.tables.specs.declared.keys.CustomerKey.{CustomerKey}
use Rattle.tables.specs.declared.rows.History.{History}
use Rattle.tables.proofs.Orders.{exact_district, exact_line}
use Rattle.tables.proofs.Totals.{total-zero}
use Rattle.population_tables.specs.Plain.{numbers, plain_history_row, district_payments, warehouse_payments, plain_history, is_delivered}
use Rattle.population_tables.specs.First.{IsFit, IsSeeded}
use Rattle.population_tables.proofs.Sound.{fit_here, seeded_here}
use Rattle.population_tables.proofs.TableRows.{each, column_of}
use Rattle.population_tables.proofs.OrdersConsistent.{condition_2, condition_3, condition_4, condition_5, condition_6, condition_7}
use Rattle.population_tables.proofs.Added.{tied_two}
use Rattle.population_tables.proofs.Parts.{total_parts}
use Rattle.population_tables.proofs.Sums.{sum_each, sum_none, sum_one, sum_joined, sum_listed, total_at}

either : (b : Bool) → cond b (pos 0) (pos 0) ≡ pos 0
either true = refl
either false = refl

-- a line that is delivered costs 0
delivered_free : (b p q r : Bool) (date : Option ℕ) (amount : ℤ) → date ≡ cond b (Some 1) None → (b ≡ true → amount ≡ pos 0)
    → cond (is_some date && p && q && r) amount (pos 0) ≡ pos 0
delivered_free true p q r date amount is free = ap (λ a. cond (is_some date && p && q && r) a (pos 0)) (free refl) ∙ either (is_some date && p && q && r)
delivered_free false p q r date amount is free = ap (λ (o : Option ℕ). cond (is_some o && p && q && r) amount (pos 0)) is

-- ---- sums over the payments
payments_sum : (s : Sizes) (f : History → ℤ)
    → sum_of f (plain_history s) ≡ sum_of (λ w. sum_of (λ d. sum_of (λ c. f (plain_history_row w d c)) (numbers s.customers)) (numbers s.districts))
    (numbers s.warehouses)
payments_sum s f =
    sum_joined f (warehouse_payments s) s.warehouses
    ∙ (λ i. sum_of (λ w. sum_joined f (district_payments s w) s.districts i) (numbers s.warehouses))
    ∙ (λ i. sum_of (λ w. sum_of (λ d. sum_listed f (plain_history_row w d) s.customers i) (numbers s.districts)) (numbers s.warehouses))

module _ (s : Sizes) where
  warehouse_payments_sum : (w : ℕ) → IsWarehouseKey s w → sum_of (λ h. cond (h.warehouse == w) h.amount (pos 0)) (plain_history s) ≡ pos
      (s.districts * (s.customers * 1000))
  warehouse_payments_sum w is =
      payments_sum s _
      ∙ sum_one _ s.warehouses w is (λ v _ apart. sum_none _ s.districts (λ d _. sum_none _ s.customers (λ c _. grind (arith, nat_tests))))
      ∙ sum_each _ s.districts (s.customers * 1000) (λ d _. sum_each _ s.customers 1000 (λ c _. grind (arith, nat_tests)))

  district_payments_sum : (k : DistrictKey) → IsDistrictKey s k → sum_of (λ h. cond (is_district h.warehouse h.district k) h.amount (pos 0))
      (plain_history s) ≡ pos (s.customers * 1000)
  district_payments_sum k is =
      payments_sum s _
      ∙ sum_one _ s.warehouses k.warehouse is.0 (λ w _ apart. sum_none _ s.districts (λ d _. sum_none _ s.customers (λ c _. grind (arith, nat_tests))))
      ∙ sum_one _ s.districts k.district is.1 (λ d _ apart. sum_none _ s.customers (λ c _. grind (arith, nat_tests)))
      ∙ sum_each _ s.customers 1000 (λ c _. grind (arith, nat_tests))

  customer_payments_sum : (k : CustomerKey) → IsCustomerKey s k
      → sum_of (λ h. cond (is_customer h.customer_warehouse h.customer_district h.customer k) h.amount (pos 0)) (plain_history s) ≡ pos 1000
  customer_payments_sum k is =
      payments_sum s _
      ∙ sum_one _ s.warehouses k.warehouse is.0 (λ w _ apart. sum_none _ s.districts (λ d _. sum_none _ s.customers (λ c _. grind (arith, nat_tests))))
      ∙ sum_one _ s.districts k.district is.1 (λ d _ apart. sum_none _ s.customers (λ c _. grind (arith, nat_tests)))
      ∙ sum_one _ s.customers k.customer is.2 (λ c _ apart. grind (arith, nat_tests))
      ∙ grind (arith, nat_tests)

module _ (t : Database) (fit : IsFit t.scale) (seeded : IsSeeded t.scale t) where
  nothing_delivered : (k : CustomerKey) → delivered_amount t k ≡ pos 0
  nothing_delivered k = total-zero exact_line _ t.lines (each seeded.lines _
      (λ j r h d. delivered_free (is_delivered t.scale j.order) _ _ _ _ _ d.delivery_date d.free))

  customer_paid : (k : CustomerKey) → IsCustomerKey t.scale k → paid_by_customer t k ≡ pos 1000
  customer_paid k is = ap (sum_of _) seeded.history ∙ customer_payments_sum t.scale k is

  condition_8 : (w : ℕ) → IsWarehouseKey t.scale w → Condition8At t w
  condition_8 w is =
      column_of seeded.warehouses (λ r. r.year_to_date) w _ is (λ r d. d.year_to_date)
      ∙ sym (ap (sum_of _) seeded.history ∙ warehouse_payments_sum t.scale w is)

  condition_9 : (k : DistrictKey) → IsDistrictKey t.scale k → Condition9At t k
  condition_9 k is =
      column_of seeded.districts (λ r. r.year_to_date) k _ is (λ r d. d.year_to_date)
      ∙ sym (ap (sum_of _) seeded.history ∙ district_payments_sum t.scale k is)

  condition_10 : (k : CustomerKey) → IsCustomerKey t.scale k → Condition10At t k
  condition_10 k is =
      column_of seeded.customers (λ r. r.balance) k _ is (λ r d. d.balance)
      ∙ sym (λ i. nothing_delivered k i -ℤ customer_paid k is i)

  condition_12 : (k : CustomerKey) → IsCustomerKey t.scale k → Condition12At t k
  condition_12 k is =
      (λ i. column_of seeded.customers (λ r. r.balance) k _ is (λ r d. d.balance) i +ℤ column_of seeded.customers (λ r. r.paid) k _ is (λ r d. d.paid) i)
      ∙ sym (nothing_delivered k)

  district_sum : (w d : ℕ) → IsDistrictKey t.scale (record { warehouse = w; district = d })
      → total (λ k r. cond ((k.warehouse == w) && (k.district == d)) r.year_to_date (pos 0)) t.districts ≡ pos (t.scale.customers * 1000)
  district_sum w d is =
      total_at exact_district (λ r. r.year_to_date) _ (record { warehouse = w; district = d }) t.districts
      (λ k. sym (tied_two k.warehouse k.district w d) ∙ (eq_by_cmp_equiv exact_district.total).symm k (record { warehouse = w; district = d }))
      ∙ column_of seeded.districts (λ r. r.year_to_date) _ _ is (λ r d. d.year_to_date)

  districts_sum : (w : ℕ) → IsWarehouseKey t.scale w → total (λ k r. cond (k.warehouse == w) r.year_to_date (pos 0)) t.districts ≡ pos
      (t.scale.districts * (t.scale.customers * 1000))
  districts_sum w is =
      total_parts exact_district (λ r. r.year_to_date) (λ k. k.warehouse == w) (λ k. k.district) t.scale.districts t.districts
      (each seeded.districts _ (λ k r h d. h.1))
      ∙ sum_each _ t.scale.districts (t.scale.customers * 1000) (λ d h. district_sum w d (is, h))

  condition_1 : (w : ℕ) → IsWarehouseKey t.scale w → Condition1At t w
  condition_1 w is = column_of seeded.warehouses (λ r. r.year_to_date) w _ is (λ r d. d.year_to_date) ∙ sym (districts_sum w is)

  consistent : IsConsistent t
  consistent = record {
    condition_1 = condition_1;
    condition_2 = condition_2 t fit seeded;
    condition_3 = condition_3 t fit seeded;
    condition_4 = condition_4 t fit seeded;
    condition_5 = condition_5 t fit seeded;
    condition_6 = condition_6 t fit seeded;
    condition_7 = condition_7 t fit seeded;
    condition_8 = condition_8;
    condition_9 = condition_9;
    condition_10 = condition_10;
    condition_12 = condition_12;
  }

pub is_consistent : (s : Sizes) (t : Database) → IsFit s → IsSeeded s t → IsConsistent t
is_consistent s t fit seeded = consistent t (fit_here s t fit seeded) (seeded_here s t fit seeded)

-- What a Payment changes of the records.
use Rattle.std.proofs.Common.{◌≡◌, ◌≢◌, ℕ, ◌-ℤ◌, Bool, true, false, cond, List, Option, Some, None, refl, sym, ap, ◌∙◌, ◌==◌, ◌&&◌}
use Rattle.std.proofs.lemmas.Bool.{eqb-true}
use Rattle.std.specs.Option.{option_map, option_map_or, unwrap_or}
use Rattle.std.specs.FinMap.{FinMap, get}
use Rattle.tables.specs.Database.{Database}
use Rattle.customer_data.specs.Text.{put_left}
use Rattle.customer_data.specs.Payments.{payment_text}
use Rattle.customer_data.specs.Words.{data_words}
use Rattle.tables.specs.Keys.{is_district, is_customer, customer_cmp}
use Rattle.tables.specs.Maps.{update_where, column}
use Rattle.tables.specs.Payment.{payer, after_payment_of, raised_warehouse, raised_district, charged_customer, front_of, changes_text, is_bad, has_bad_credit}
use Rattle.tables.specs.Constant.{IsOf}
use Rattle.tables.specs.declared.rows.Credit.{Credit}
use Rattle.tables.specs.OrderNumbers.{least, numbers_in}
use Rattle.tables.specs.Rows.{row_at, number_words, warehouse_words, district_words, customer_words}
use Rattle.tables.proofs.Orders.{IsExact, exact_number, exact_district, exact_customer}
use Rattle.tables_laws.proofs.Updates.{column-update_where, kept-update_where, update_where-none}
use Rattle.tables_laws.proofs.Touched.{self, both, district_named, customer_named, untouched, touched}
use Rattle.payment.specs.Steps.{paying}
use Rattle.tables.specs.declared.keys.CustomerKey.{CustomerKey}
use Rattle.tables.specs.declared.records.RecordKey.{RecordKey}
use Rattle.tables.specs.declared.records.RecordKey.TheVariants as key
use Rattle.tables.specs.declared.rows.Warehouse.{Warehouse}
use Rattle.tables.specs.declared.rows.District.{District}
use Rattle.tables.specs.declared.rows.Customer.{Customer}
use Rattle.tables.specs.declared.payment.PaymentInput.{PaymentInput}

-- the row that an update touches
changed : {K X : Type 0} {R : K → K → Rattle.std.specs.declared.cmp.Ordering.Ordering} (o : IsExact R) (p : K → Bool) (g : X → X) (words : X → List ℕ)
    (m : FinMap R X) (k : K) (r : X)
    → p k ≡ true → get m k ≡ Some r → option_map words (get (update_where p g m) k) ≡ Some (words (g r))
changed o p g words m k r h found = touched o words m p g k h ∙ ap (option_map (λ r. words (g r))) found

module _ (t : Database) (x : PaymentInput) (id : ℕ) where
  -- the records of all keys but three are as before, where C_DATA's are
  pub others : (k : RecordKey) → k ≢ key.Warehouse x.warehouse → k ≢ key.District (paying x) → k ≢ key.Customer (payer x id)
      → ((j : CustomerKey) → k ≡ key.CustomerData j → row_at (after_payment_of t x id) (key.CustomerData j) ≡ row_at t (key.CustomerData j))
      → row_at (after_payment_of t x id) k ≡ row_at t k
  others (key.Warehouse w) a b c d = untouched exact_number warehouse_words t.warehouses (λ w. x.warehouse == w) (raised_warehouse x.amount) w
      (λ h. a (ap key.Warehouse (sym (eqb-true x.warehouse w h))))
  others (key.District k) a b c d = untouched exact_district district_words t.districts (is_district x.warehouse x.district) (raised_district x.amount) k
      (λ h. b (ap key.District (sym (district_named x.warehouse x.district k h))))
  others (key.Customer k) a b c d = untouched exact_customer customer_words t.customers (is_customer x.customer_warehouse x.customer_district id)
      (charged_customer x.amount) k
      (λ h. c (ap key.Customer (sym (customer_named x.customer_warehouse x.customer_district id k h))))
  others (key.NewOrder k) a b c d = refl
  others (key.Order k) a b c d = refl
  others (key.OrderLine k) a b c d = refl
  others (key.Stock k) a b c d = refl
  others (key.Oldest k) a b c d = ap (λ n. Some (number_words n)) (ap (unwrap_or (least (numbers_in k t.new_orders)))
      (kept-update_where exact_district (is_district x.warehouse x.district) (raised_district x.amount)
      (λ (w : Option District). option_map_or (λ r. r.next_order) w 0) t.districts k (λ _ r. refl)))
  others (key.Last k) a b c d = refl
  others (key.CustomerData k) a b c d = d k refl

  -- C_DATA of no customer changes
  pub texts_kept : ((k : CustomerKey) → changes_text t x id k ≡ false) → (j : CustomerKey)
      → row_at (after_payment_of t x id) (key.CustomerData j) ≡ row_at t (key.CustomerData j)
  texts_kept none j = ap (λ (m : FinMap customer_cmp (List ℕ)). option_map data_words (get m j))
      (update_where-none exact_customer (changes_text t x id) (put_left (payment_text (front_of x id))) t.texts none)

  -- no other customer's does
  pub other_text : (j : CustomerKey) → key.CustomerData j ≢ key.CustomerData (payer x id)
      → row_at (after_payment_of t x id) (key.CustomerData j) ≡ row_at t (key.CustomerData j)
  other_text j apart = untouched exact_customer data_words t.texts (changes_text t x id) (put_left (payment_text (front_of x id))) j
      (λ h. apart (ap key.CustomerData (sym (customer_named x.customer_warehouse x.customer_district id j
      (both (is_customer x.customer_warehouse x.customer_district id j) (has_bad_credit t j) (both t.keeps_texts _ h).1).0))))

  -- a customer with good credit keeps C_DATA
  pub no_text : has_bad_credit t (payer x id) ≡ false → (k : CustomerKey) → changes_text t x id k ≡ false
  no_text good k = elim (changes_text t x id k) as (λ b. changes_text t x id k ≡ b → b ≡ false) [
    | true ↦ λ h.
        let both_hold = both (is_customer x.customer_warehouse x.customer_district id k) (has_bad_credit t k) (both t.keeps_texts _ h).1 in
        sym both_hold.1 ∙ ap (has_bad_credit t) (sym (customer_named x.customer_warehouse x.customer_district id k both_hold.0)) ∙ good
    | false ↦ λ _. refl
  ] refl

  -- and one with bad credit has the Payment's text at the left of it
  pub text_changed : t.keeps_texts ≡ true → has_bad_credit t (payer x id) ≡ true → (text : List ℕ) → get t.texts (payer x id) ≡ Some text
      → row_at (after_payment_of t x id) (key.CustomerData (payer x id)) ≡ Some (data_words (put_left (payment_text (front_of x id)) text))
  text_changed keeps bad text found = changed exact_customer (changes_text t x id) (put_left (payment_text (front_of x id))) data_words t.texts
      (payer x id) text (λ i. keeps i && (((self x.customer_warehouse i && self x.customer_district i) && self id i) && bad i)) found

  pub warehouse_changed : (r : Warehouse) → get t.warehouses x.warehouse ≡ Some r → row_at (after_payment_of t x id) (key.Warehouse x.warehouse) ≡ Some
      (warehouse_words (raised_warehouse x.amount r))
  warehouse_changed r found = changed exact_number (λ w. x.warehouse == w) (raised_warehouse x.amount) warehouse_words t.warehouses x.warehouse r
      (self x.warehouse) found

  pub district_changed : (r : District) → get t.districts (paying x) ≡ Some r
      → row_at (after_payment_of t x id) (key.District (paying x)) ≡ Some
      (district_words (raised_district x.amount r))
  district_changed r found = changed exact_district (is_district x.warehouse x.district) (raised_district x.amount) district_words t.districts
      (paying x) r (λ i. self x.warehouse i && self x.district i) found

  pub customer_changed : (r : Customer) → get t.customers (payer x id) ≡ Some r → row_at (after_payment_of t x id) (key.Customer (payer x id)) ≡ Some
      (customer_words (charged_customer x.amount r))
  customer_changed r found = changed exact_customer (is_customer x.customer_warehouse x.customer_district id)
      (charged_customer x.amount) customer_words t.customers (payer x id) r
      (λ i. (self x.customer_warehouse i && self x.customer_district i) && self id i) found

  pub balance_changed : (r : Customer) → get t.customers (payer x id) ≡ Some r
      → column (λ c. c.balance) (after_payment_of t x id).customers (payer x id) ≡ r.balance -ℤ x.amount
  balance_changed r found =
      column-update_where exact_customer (λ c. c.balance) (is_customer x.customer_warehouse x.customer_district id)
      (charged_customer x.amount) t.customers (payer x id) r found
      ∙ (λ i. (cond ((self x.customer_warehouse i && self x.customer_district i) && self id i) (charged_customer x.amount r) r).balance)

-- whose credit is bad is the same in all tables of a population
mapped : {X Y Z : Type 0} (f : Y → Z) (g : X → Y) (o : Option X) (none : Z) → option_map_or (λ r. f (g r)) o none ≡ option_map_or f (option_map g o) none
mapped f g None none = refl
mapped f g (Some r) none = refl

pub same_credit : (t0 t : Database) → IsOf t0 t → (k : CustomerKey) → has_bad_credit t k ≡ has_bad_credit t0 k
same_credit t0 t h k = mapped is_bad (λ (r : Customer). r.credit) (get t.customers k) false
    ∙ ap (λ (o : Option Credit). option_map_or is_bad o false) (h.credit k)
    ∙ sym (mapped is_bad (λ (r : Customer). r.credit) (get t0.customers k) false)

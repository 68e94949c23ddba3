-- A population, the words of each record, and HISTORY determine the tables.
use Rattle.std.proofs.Common.{◌≡◌, ℕ, List, Option, Some, None, IsSome, refl, sym, ap, ◌∙◌, subst}
use Rattle.std.specs.Option.{option_map}
use Rattle.std.specs.FinMap.{FinMap, get, same_map}
use Rattle.std.specs.declared.cmp.Ordering.{Ordering}
use Rattle.std.proofs.lemmas.Option.{none-some, same_Some}
use Rattle.customer_data.specs.Text.{IsData}
use Rattle.customer_data.specs.Words.{data_words}
use Rattle.customer_data.proofs.Texts.{text_back}
use Rattle.tables.specs.Database.{Database}
use Rattle.tables.specs.WellFormed.{IsLineRow, IsStockRow}
use Rattle.tables.specs.Keys.{IsWarehouseKey, IsDistrictKey, IsCustomerKey, IsOrderKey, IsLineKey, IsStockKey}
use Rattle.tables.specs.Rows.{warehouse_words, district_words, customer_words, new_order_words, order_words, line_words, stock_words}
use Rattle.tables.specs.declared.keys.DistrictKey.{DistrictKey}
use Rattle.tables.specs.declared.keys.CustomerKey.{CustomerKey}
use Rattle.tables.specs.declared.rows.Warehouse.{Warehouse}
use Rattle.tables.specs.declared.rows.District.{District}
use Rattle.tables.specs.declared.rows.Customer.{Customer}
use Rattle.tables.specs.declared.records.RecordKey.{RecordKey}
use Rattle.tables.proofs.Orders.{IsExact, exact_number, exact_district, exact_customer, exact_order, exact_line, exact_stock}
use Rattle.tables.proofs.Same.{same_database}
use Rattle.rows.specs.Columns.{warehouse_columns, district_columns, customer_columns, IsOrderOfScale}
use Rattle.rows.specs.Laws.{district_range, customer_range}
use Rattle.rows.specs.Determined.{warehouse_determined, district_determined, customer_determined, order_determined, line_determined, stock_determined}
use Rattle.encoding.specs.Held.{IsTableOf, IsWarehouseOf, IsDistrictOf, IsCustomerOf, AreTables}

-- two values that one option has
same_column : {X : Type 0} (o : Option X) (x y : X) → o ≡ Some x → o ≡ Some y → x ≡ y
same_column o x y e f = same_Some x y (sym e ∙ f)

-- two rows of one key that have the same words are the same
same_warehouse : (t0 : Database) (w : ℕ) (r q : Warehouse) → IsWarehouseOf t0 w r → IsWarehouseOf t0 w q → warehouse_words r ≡ warehouse_words q → r ≡ q
same_warehouse t0 w r q a b e =
    let columns = warehouse_determined (warehouse_columns r) (warehouse_columns q) a.range b.range e in
    λ i. record { tax = same_column _ _ _ a.tax b.tax i; year_to_date = (columns i).year_to_date }

same_district : (t0 : Database) (k : DistrictKey) (r q : District) → IsDistrictOf t0 k r → IsDistrictOf t0 k q → district_words r ≡ district_words q → r ≡ q
same_district t0 k r q a b e =
    let s = t0.scale in
    let columns = district_determined s (district_columns r) (district_columns q) (district_range s r a.range) (district_range s q b.range) e in
    λ i. record { tax = same_column _ _ _ a.tax b.tax i; year_to_date = (columns i).year_to_date; next_order = (columns i).next_order }

same_customer : (t0 : Database) (k : CustomerKey) (r q : Customer) → IsCustomerOf t0 k r → IsCustomerOf t0 k q → customer_words r ≡ customer_words q → r ≡ q
same_customer t0 k r q a b e =
    let columns = customer_determined (customer_columns r) (customer_columns q) (customer_range r a.range) (customer_range q b.range) e in
    λ i. record {
      first_name = same_column _ _ _ a.first_name b.first_name i;
      last_name = same_column _ _ _ a.last_name b.last_name i;
      credit = same_column _ _ _ a.credit b.credit i;
      discount = same_column _ _ _ a.discount b.discount i;
      balance = (columns i).balance;
      paid = (columns i).paid;
      payments = (columns i).payments;
      deliveries = (columns i).deliveries;
    }

module _ {K X : Type 0} {R : K → K → Ordering} (IsKey : K → Type 0) (IsIn : K → X → Type 0) (words : X → List ℕ) (value : K → Option (List ℕ))
    (m n : FinMap R X) where
  -- a row stands where the other table has one too
  not_alone : IsTableOf IsKey IsIn words value m → IsTableOf IsKey IsIn words value n → (k : K) (r : X) → get m k ≡ Some r → get n k ≡ None → ⊥
  not_alone a b k r e f =
      let is = a.within k (subst IsSome (sym e) refl) in
      none-some (words r) (ap (option_map words) (sym f) ∙ (b.rows k is ∙ (sym (a.rows k is) ∙ ap (option_map words) e)))

  same_words : IsTableOf IsKey IsIn words value m → IsTableOf IsKey IsIn words value n → (k : K) (r q : X) → get m k ≡ Some r → get n k ≡ Some q
      → words r ≡ words q
  same_words a b k r q e f =
      let is = a.within k (subst IsSome (sym e) refl) in
      same_Some _ _ (ap (option_map words) (sym e) ∙ (a.rows k is ∙ (sym (b.rows k is) ∙ ap (option_map words) f)))

-- two tables of the same values are the same, where words tell the rows of a key apart
same_table : {K X : Type 0} {R : K → K → Ordering} → IsExact R → (IsKey : K → Type 0) (IsIn : K → X → Type 0) (words : X → List ℕ) (value : K → Option (List ℕ))
    (m n : FinMap R X) → ((k : K) (r q : X) → IsIn k r → IsIn k q → words r ≡ words q → r ≡ q) → IsTableOf IsKey IsIn words value m
    → IsTableOf IsKey IsIn words value n → m ≡ n
same_table {K = K} {X = X} o IsKey IsIn words value m n same a b = same_map o.total o.same m n (λ k. at k (get m k) (get n k) refl refl)
  where
    at : (k : K) (v w : Option X) → get m k ≡ v → get n k ≡ w → get m k ≡ get n k
    at k None None e f = e ∙ sym f
    at k (Some r) None e f = absurd (not_alone IsKey IsIn words value m n a b k r e f)
    at k None (Some q) e f = absurd (not_alone IsKey IsIn words value n m b a k q f e)
    at k (Some r) (Some q) e f = e ∙ (ap Some (same k r q (a.each k r e) (b.each k q f) (same_words IsKey IsIn words value m n a b k r q e f)) ∙ sym f)

pub determined : (t0 : Database) (values : RecordKey → Option (List ℕ)) (t u : Database) → AreTables t0 values t → AreTables t0 values u → t.history ≡ u.history
    → t ≡ u
determined t0 values t u a b history =
    let s = t0.scale in
    same_database t u (record {
      scale = a.scale ∙ sym b.scale;
      keeps_texts = a.keeps ∙ sym b.keeps;
      texts = same_table exact_customer (IsCustomerKey s) (λ k text. IsData text) data_words _ _ _ (λ k. text_back) a.texts b.texts;
      warehouses = same_table exact_number (IsWarehouseKey s) (IsWarehouseOf t0) warehouse_words _ _ _ (same_warehouse t0) a.warehouses b.warehouses;
      districts = same_table exact_district (IsDistrictKey s) (IsDistrictOf t0) district_words _ _ _ (same_district t0) a.districts b.districts;
      customers = same_table exact_customer (IsCustomerKey s) (IsCustomerOf t0) customer_words _ _ _ (same_customer t0) a.customers b.customers;
      history = history;
      new_orders = same_table exact_order (IsOrderKey s) (λ k r. Unit {0}) new_order_words _ _ _ (λ k r q _ _ _. refl) a.new_orders b.new_orders;
      orders = same_table exact_order (IsOrderKey s) (λ k r. IsOrderOfScale s r) order_words _ _ _ (λ k. order_determined s) a.orders b.orders;
      lines = same_table exact_line (IsLineKey s) (λ k r. IsLineRow s r) line_words _ _ _ (λ k. line_determined s) a.lines b.lines;
      items = a.items ∙ sym b.items;
      stock = same_table exact_stock (IsStockKey s) (λ k r. IsStockRow r) stock_words _ _ _ (λ k r q _ _. stock_determined r q) a.stock b.stock;
    })

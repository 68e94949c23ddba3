-- A row that is put into a table puts its words into the record of its key.
use Rattle.std.proofs.Common.{◌≡◌, ◌≢◌, ℕ, true, false, cond, true≢false, List, Option, Some, None, refl, sym, ap, ◌∙◌, subst, ◌⊎◌, inl, inr, ⊎_elim, IsSome}
use Rattle.std.specs.Ordering.{eq_by_cmp, is_eq, nat_cmp}
use Rattle.std.specs.Cmp.{tied_itself, eq_by_cmp_equiv}
use Rattle.std.specs.Option.{option_map}
use Rattle.std.specs.BTreeMap as tree
use Rattle.std.specs.BTreeMap.{BTreeMap, is_at}
use Rattle.std.specs.FinMap.{FinMap, get, get-insert, insert, get-remove, remove, from_entries, same_map}
use Rattle.std.specs.declared.cmp.Ordering.{Ordering}
use Rattle.std.proofs.lemmas.Option.{none-some, same_Some}
use Rattle.customer_data.specs.Text.{IsData}
use Rattle.customer_data.specs.Words.{data_words}
use Rattle.tables.specs.Database.{Database}
use Rattle.tables.specs.Records.{IsRecordKey}
use Rattle.tables.specs.Keys.{IsWarehouseKey, IsDistrictKey, IsCustomerKey, IsOrderKey, IsLineKey, IsStockKey, district_cmp, customer_cmp, order_cmp, line_cmp}
use Rattle.tables.specs.Keys.{stock_cmp}
use Rattle.tables.specs.Rows.{warehouse_words, district_words, customer_words, new_order_words, order_words, line_words, stock_words}
use Rattle.tables.specs.WellFormed.{IsLineRow, IsStockRow}
use Rattle.tables.specs.declared.keys.DistrictKey.{DistrictKey}
use Rattle.tables.specs.declared.keys.CustomerKey.{CustomerKey}
use Rattle.tables.specs.declared.keys.OrderKey.{OrderKey}
use Rattle.tables.specs.declared.keys.LineKey.{LineKey}
use Rattle.tables.specs.declared.keys.StockKey.{StockKey}
use Rattle.tables.specs.declared.rows.Warehouse.{Warehouse}
use Rattle.tables.specs.declared.rows.District.{District}
use Rattle.tables.specs.declared.rows.Customer.{Customer}
use Rattle.tables.specs.declared.rows.NewOrder.{NewOrder}
use Rattle.tables.specs.declared.rows.Order.{Order}
use Rattle.tables.specs.declared.rows.OrderLine.{OrderLine}
use Rattle.tables.specs.declared.rows.Stock.{Stock}
use Rattle.tables.specs.declared.records.RecordKey.{RecordKey}
use Rattle.tables.specs.declared.records.RecordKey.TheVariants as key
use Rattle.tables.proofs.Entries.{tied}
use Rattle.tables.proofs.Orders.{IsExact, exact_number, exact_district, exact_customer, exact_order, exact_line, exact_stock}
use Rattle.tables.proofs.Views.{get-view}
use Rattle.rows.specs.Columns.{IsOrderOfScale}
use Rattle.encoding.specs.Held.{IsTableOf, IsWarehouseOf, IsDistrictOf, IsCustomerOf, AreTables}
use Rattle.encoding.specs.Puts.{Puts}

module _ {K X : Type 0} {R : K → K → Ordering} (o : IsExact R) (m : FinMap R X) (k : K) where
  -- what stands at a key where one key has something new: that, or what stood there
  changed : (n : FinMap R X) (some : Option X) → ((q : K) → get n q ≡ cond (eq_by_cmp R q k) some (get m q)) → (q : K)
      → ((q ≡ k) × (get n q ≡ some)) ⊎ ((q ≢ k) × (get n q ≡ get m q))
  changed n some is q = elim (eq_by_cmp R q k) as (λ b. eq_by_cmp R q k ≡ b → ((q ≡ k) × (get n q ≡ some)) ⊎ ((q ≢ k) × (get n q ≡ get m q))) [
    | true ↦ λ t. inl (o.same q k (tied _ t), is q ∙ ap (λ b. cond b some (get m q)) t)
    | false ↦ λ t. inr ((λ e. true≢false (sym (ap (λ j. eq_by_cmp R j k) e ∙ ap is_eq (tied_itself o.total k)) ∙ t)), is q ∙ ap (λ b. cond b some (get m q)) t)
  ] refl

  -- after an insert: the new row
  inserted : (r : X) (q : K) → ((q ≡ k) × (get (insert m k r) q ≡ Some r)) ⊎ ((q ≢ k) × (get (insert m k r) q ≡ get m q))
  inserted r = changed (insert m k r) (Some r) (get-insert o.total m k r)

  -- after a delete: no row
  removed : (q : K) → ((q ≡ k) × (get (remove m k) q ≡ None)) ⊎ ((q ≢ k) × (get (remove m k) q ≡ get m q))
  removed = changed (remove m k) None (get-remove o.total m k)

  -- a table of some values, with a row of the value at its key
  same_insert : (r : X) (IsKey : K → Type 0) (IsIn : K → X → Type 0) (words : X → List ℕ) (value more : K → Option (List ℕ)) → IsKey k → IsIn k r
      → more k ≡ Some (words r) → ((q : K) → IsKey q → q ≢ k → more q ≡ value q) → IsTableOf IsKey IsIn words value m
      → IsTableOf IsKey IsIn words more (insert m k r)
  same_insert r IsKey IsIn words value more is is_in here others a = record {
    within = λ q some. ⊎_elim (λ c. subst IsKey (sym c.0) is) (λ c. a.within q (subst IsSome c.1 some)) (inserted r q);
    each = λ q row e. ⊎_elim (λ c. subst (λ j. IsIn j row) (sym c.0) (subst (IsIn k) (same_Some _ _ (sym c.1 ∙ e)) is_in)) (λ c. a.each q row (sym c.1 ∙ e))
        (inserted r q);
    rows = λ q at. ⊎_elim (λ c. ap (option_map words) c.1 ∙ (sym here ∙ ap more (sym c.0)))
        (λ c. ap (option_map words) c.1 ∙ (a.rows q at ∙ sym (others q at c.0))) (inserted r q);
  }

  -- a table of some values, with no row at its key
  same_remove : (IsKey : K → Type 0) (IsIn : K → X → Type 0) (words : X → List ℕ) (value more : K → Option (List ℕ)) → more k ≡ None
      → ((q : K) → IsKey q → q ≢ k → more q ≡ value q) → IsTableOf IsKey IsIn words value m → IsTableOf IsKey IsIn words more (remove m k)
  same_remove IsKey IsIn words value more here others a = record {
    within = λ q some. ⊎_elim (λ c. absurd (true≢false (sym (subst IsSome c.1 some)))) (λ c. a.within q (subst IsSome c.1 some)) (removed q);
    each = λ q row e. ⊎_elim (λ c. absurd (none-some row (sym c.1 ∙ e))) (λ c. a.each q row (sym c.1 ∙ e)) (removed q);
    rows = λ q at. ⊎_elim (λ c. ap (option_map words) c.1 ∙ (sym here ∙ ap more (sym c.0)))
        (λ c. ap (option_map words) c.1 ∙ (a.rows q at ∙ sym (others q at c.0))) (removed q);
  }

-- a table of values that are the same at its keys
pub same_values : {K X : Type 0} {R : K → K → Ordering} (IsKey : K → Type 0) (IsIn : K → X → Type 0) (words : X → List ℕ) (value more : K → Option (List ℕ))
    (m : FinMap R X) → ((q : K) → IsKey q → more q ≡ value q) → IsTableOf IsKey IsIn words value m → IsTableOf IsKey IsIn words more m
same_values IsKey IsIn words value more m same a = record { within = a.within; each = a.each; rows = λ q is. a.rows q is ∙ sym (same q is) }

module _ (t0 t : Database) (values more : RecordKey → Option (List ℕ)) (k : RecordKey)
    (others : (j : RecordKey) → IsRecordKey t0.scale j → j ≢ k → more j ≡ values j) (a : AreTables t0 values t) where
  -- the tables that the key isn't of
  kept_warehouses : ((q : ℕ) → key.Warehouse q ≢ k) → IsTableOf (IsWarehouseKey t0.scale) (IsWarehouseOf t0) warehouse_words (λ q. more (key.Warehouse q))
      t.warehouses
  kept_warehouses apart = same_values (IsWarehouseKey t0.scale) (IsWarehouseOf t0) warehouse_words _ _ t.warehouses
      (λ q is. others (key.Warehouse q) is (apart q)) a.warehouses

  kept_districts : ((q : DistrictKey) → key.District q ≢ k) → IsTableOf (IsDistrictKey t0.scale) (IsDistrictOf t0) district_words (λ q. more (key.District q))
      t.districts
  kept_districts apart = same_values (IsDistrictKey t0.scale) (IsDistrictOf t0) district_words _ _ t.districts (λ q is. others (key.District q) is (apart q))
      a.districts

  kept_customers : ((q : CustomerKey) → key.Customer q ≢ k) → IsTableOf (IsCustomerKey t0.scale) (IsCustomerOf t0) customer_words (λ q. more (key.Customer q))
      t.customers
  kept_customers apart = same_values (IsCustomerKey t0.scale) (IsCustomerOf t0) customer_words _ _ t.customers (λ q is. others (key.Customer q) is (apart q))
      a.customers

  kept_texts : ((q : CustomerKey) → key.CustomerData q ≢ k) → IsTableOf (IsCustomerKey t0.scale) (λ k text. IsData text) data_words
      (λ q. more (key.CustomerData q)) t.texts
  kept_texts apart = same_values (IsCustomerKey t0.scale) (λ k text. IsData text) data_words _ _ t.texts
      (λ q is. others (key.CustomerData q) is (apart q)) a.texts

  kept_new_orders : ((q : OrderKey) → key.NewOrder q ≢ k) → IsTableOf (IsOrderKey t0.scale) (λ k r. Unit {0}) new_order_words (λ q. more (key.NewOrder q))
      t.new_orders
  kept_new_orders apart = same_values (IsOrderKey t0.scale) (λ k r. Unit {0}) new_order_words _ _ t.new_orders (λ q is. others (key.NewOrder q) is (apart q))
      a.new_orders

  kept_orders : ((q : OrderKey) → key.Order q ≢ k) → IsTableOf (IsOrderKey t0.scale) (λ k r. IsOrderOfScale t0.scale r) order_words (λ q. more (key.Order q))
      t.orders
  kept_orders apart = same_values (IsOrderKey t0.scale) (λ k r. IsOrderOfScale t0.scale r) order_words _ _ t.orders (λ q is. others (key.Order q) is (apart q))
      a.orders

  kept_lines : ((q : LineKey) → key.OrderLine q ≢ k) → IsTableOf (IsLineKey t0.scale) (λ k r. IsLineRow t0.scale r) line_words (λ q. more (key.OrderLine q))
      t.lines
  kept_lines apart = same_values (IsLineKey t0.scale) (λ k r. IsLineRow t0.scale r) line_words _ _ t.lines (λ q is. others (key.OrderLine q) is (apart q))
      a.lines

  kept_stock : ((q : StockKey) → key.Stock q ≢ k) → IsTableOf (IsStockKey t0.scale) (λ k r. IsStockRow r) stock_words (λ q. more (key.Stock q)) t.stock
  kept_stock apart = same_values (IsStockKey t0.scale) (λ k r. IsStockRow r) stock_words _ _ t.stock (λ q is. others (key.Stock q) is (apart q)) a.stock

module _ (t0 : Database) (ws : List ℕ) (t : Database) where
  pub puts_warehouse : (k : ℕ) (r : Warehouse) (rows : FinMap nat_cmp Warehouse) → rows ≡ insert t.warehouses k r → IsWarehouseKey t0.scale k
      → IsWarehouseOf t0 k r → ws ≡ warehouse_words r → Puts t0 (key.Warehouse k) (Some ws) t (record t { warehouses = rows })
  puts_warehouse k r rows e is is_in same = record {
    history = refl;
    tables = λ values more here others a. record {
      scale = a.scale;
      keeps = a.keeps;
      items = a.items;
      warehouses = subst (IsTableOf (IsWarehouseKey t0.scale) (IsWarehouseOf t0) warehouse_words (λ q. more (key.Warehouse q))) (sym e)
          (same_insert exact_number t.warehouses k r (IsWarehouseKey t0.scale) (IsWarehouseOf t0) warehouse_words _ _ is is_in (here ∙ ap Some same)
          (λ q at other. others (key.Warehouse q) at (λ (p : key.Warehouse q ≡ key.Warehouse k). other cc)) a.warehouses);
      districts = kept_districts t0 t values more (key.Warehouse k) others a (λ q p. cc);
      customers = kept_customers t0 t values more (key.Warehouse k) others a (λ q p. cc);
      texts = kept_texts t0 t values more (key.Warehouse k) others a (λ q p. cc);
      new_orders = kept_new_orders t0 t values more (key.Warehouse k) others a (λ q p. cc);
      orders = kept_orders t0 t values more (key.Warehouse k) others a (λ q p. cc);
      lines = kept_lines t0 t values more (key.Warehouse k) others a (λ q p. cc);
      stock = kept_stock t0 t values more (key.Warehouse k) others a (λ q p. cc);
    };
  }

  pub puts_district : (k : DistrictKey) (r : District) (rows : FinMap district_cmp District) → rows ≡ insert t.districts k r → IsDistrictKey t0.scale k
      → IsDistrictOf t0 k r → ws ≡ district_words r → Puts t0 (key.District k) (Some ws) t (record t { districts = rows })
  puts_district k r rows e is is_in same = record {
    history = refl;
    tables = λ values more here others a. record {
      scale = a.scale;
      keeps = a.keeps;
      items = a.items;
      warehouses = kept_warehouses t0 t values more (key.District k) others a (λ q p. cc);
      districts = subst (IsTableOf (IsDistrictKey t0.scale) (IsDistrictOf t0) district_words (λ q. more (key.District q))) (sym e)
          (same_insert exact_district t.districts k r (IsDistrictKey t0.scale) (IsDistrictOf t0) district_words _ _ is is_in (here ∙ ap Some same)
          (λ q at other. others (key.District q) at (λ (p : key.District q ≡ key.District k). other cc)) a.districts);
      customers = kept_customers t0 t values more (key.District k) others a (λ q p. cc);
      texts = kept_texts t0 t values more (key.District k) others a (λ q p. cc);
      new_orders = kept_new_orders t0 t values more (key.District k) others a (λ q p. cc);
      orders = kept_orders t0 t values more (key.District k) others a (λ q p. cc);
      lines = kept_lines t0 t values more (key.District k) others a (λ q p. cc);
      stock = kept_stock t0 t values more (key.District k) others a (λ q p. cc);
    };
  }

  pub puts_customer : (k : CustomerKey) (r : Customer) (rows : FinMap customer_cmp Customer) → rows ≡ insert t.customers k r → IsCustomerKey t0.scale k
      → IsCustomerOf t0 k r → ws ≡ customer_words r → Puts t0 (key.Customer k) (Some ws) t (record t { customers = rows })
  puts_customer k r rows e is is_in same = record {
    history = refl;
    tables = λ values more here others a. record {
      scale = a.scale;
      keeps = a.keeps;
      items = a.items;
      warehouses = kept_warehouses t0 t values more (key.Customer k) others a (λ q p. cc);
      districts = kept_districts t0 t values more (key.Customer k) others a (λ q p. cc);
      customers = subst (IsTableOf (IsCustomerKey t0.scale) (IsCustomerOf t0) customer_words (λ q. more (key.Customer q))) (sym e)
          (same_insert exact_customer t.customers k r (IsCustomerKey t0.scale) (IsCustomerOf t0) customer_words _ _ is is_in (here ∙ ap Some same)
          (λ q at other. others (key.Customer q) at (λ (p : key.Customer q ≡ key.Customer k). other cc)) a.customers);
      texts = kept_texts t0 t values more (key.Customer k) others a (λ q p. cc);
      new_orders = kept_new_orders t0 t values more (key.Customer k) others a (λ q p. cc);
      orders = kept_orders t0 t values more (key.Customer k) others a (λ q p. cc);
      lines = kept_lines t0 t values more (key.Customer k) others a (λ q p. cc);
      stock = kept_stock t0 t values more (key.Customer k) others a (λ q p. cc);
    };
  }

  pub puts_text : (k : CustomerKey) (text : List ℕ) (rows : FinMap customer_cmp (List ℕ)) → rows ≡ insert t.texts k text → IsCustomerKey t0.scale k
      → IsData text → ws ≡ data_words text → Puts t0 (key.CustomerData k) (Some ws) t (record t { texts = rows })
  puts_text k text rows e is is_in same = record {
    history = refl;
    tables = λ values more here others a. record {
      scale = a.scale;
      keeps = a.keeps;
      items = a.items;
      warehouses = kept_warehouses t0 t values more (key.CustomerData k) others a (λ q p. cc);
      districts = kept_districts t0 t values more (key.CustomerData k) others a (λ q p. cc);
      customers = kept_customers t0 t values more (key.CustomerData k) others a (λ q p. cc);
      texts = subst (IsTableOf (IsCustomerKey t0.scale) (λ k text. IsData text) data_words (λ q. more (key.CustomerData q))) (sym e)
          (same_insert exact_customer t.texts k text (IsCustomerKey t0.scale) (λ k text. IsData text) data_words _ _ is is_in (here ∙ ap Some same)
          (λ q at other. others (key.CustomerData q) at (λ (p : key.CustomerData q ≡ key.CustomerData k). other cc)) a.texts);
      new_orders = kept_new_orders t0 t values more (key.CustomerData k) others a (λ q p. cc);
      orders = kept_orders t0 t values more (key.CustomerData k) others a (λ q p. cc);
      lines = kept_lines t0 t values more (key.CustomerData k) others a (λ q p. cc);
      stock = kept_stock t0 t values more (key.CustomerData k) others a (λ q p. cc);
    };
  }

  pub puts_new_order : (k : OrderKey) (r : NewOrder) (rows : FinMap order_cmp NewOrder) → rows ≡ insert t.new_orders k r → IsOrderKey t0.scale k
      → ws ≡ new_order_words r → Puts t0 (key.NewOrder k) (Some ws) t (record t { new_orders = rows })
  puts_new_order k r rows e is same = record {
    history = refl;
    tables = λ values more here others a. record {
      scale = a.scale;
      keeps = a.keeps;
      items = a.items;
      warehouses = kept_warehouses t0 t values more (key.NewOrder k) others a (λ q p. cc);
      districts = kept_districts t0 t values more (key.NewOrder k) others a (λ q p. cc);
      customers = kept_customers t0 t values more (key.NewOrder k) others a (λ q p. cc);
      texts = kept_texts t0 t values more (key.NewOrder k) others a (λ q p. cc);
      new_orders = subst (IsTableOf (IsOrderKey t0.scale) (λ k r. Unit {0}) new_order_words (λ q. more (key.NewOrder q))) (sym e)
          (same_insert exact_order t.new_orders k r (IsOrderKey t0.scale) (λ k r. Unit {0}) new_order_words _ _ is tt (here ∙ ap Some same)
          (λ q at other. others (key.NewOrder q) at (λ (p : key.NewOrder q ≡ key.NewOrder k). other cc)) a.new_orders);
      orders = kept_orders t0 t values more (key.NewOrder k) others a (λ q p. cc);
      lines = kept_lines t0 t values more (key.NewOrder k) others a (λ q p. cc);
      stock = kept_stock t0 t values more (key.NewOrder k) others a (λ q p. cc);
    };
  }

  pub puts_order : (k : OrderKey) (r : Order) (rows : FinMap order_cmp Order) → rows ≡ insert t.orders k r → IsOrderKey t0.scale k → IsOrderOfScale t0.scale r
      → ws ≡ order_words r → Puts t0 (key.Order k) (Some ws) t (record t { orders = rows })
  puts_order k r rows e is is_in same = record {
    history = refl;
    tables = λ values more here others a. record {
      scale = a.scale;
      keeps = a.keeps;
      items = a.items;
      warehouses = kept_warehouses t0 t values more (key.Order k) others a (λ q p. cc);
      districts = kept_districts t0 t values more (key.Order k) others a (λ q p. cc);
      customers = kept_customers t0 t values more (key.Order k) others a (λ q p. cc);
      texts = kept_texts t0 t values more (key.Order k) others a (λ q p. cc);
      new_orders = kept_new_orders t0 t values more (key.Order k) others a (λ q p. cc);
      orders = subst (IsTableOf (IsOrderKey t0.scale) (λ k r. IsOrderOfScale t0.scale r) order_words (λ q. more (key.Order q))) (sym e)
          (same_insert exact_order t.orders k r (IsOrderKey t0.scale) (λ k r. IsOrderOfScale t0.scale r) order_words _ _ is is_in (here ∙ ap Some same)
          (λ q at other. others (key.Order q) at (λ (p : key.Order q ≡ key.Order k). other cc)) a.orders);
      lines = kept_lines t0 t values more (key.Order k) others a (λ q p. cc);
      stock = kept_stock t0 t values more (key.Order k) others a (λ q p. cc);
    };
  }

  pub puts_line : (k : LineKey) (r : OrderLine) (rows : FinMap line_cmp OrderLine) → rows ≡ insert t.lines k r → IsLineKey t0.scale k → IsLineRow t0.scale r
      → ws ≡ line_words r → Puts t0 (key.OrderLine k) (Some ws) t (record t { lines = rows })
  puts_line k r rows e is is_in same = record {
    history = refl;
    tables = λ values more here others a. record {
      scale = a.scale;
      keeps = a.keeps;
      items = a.items;
      warehouses = kept_warehouses t0 t values more (key.OrderLine k) others a (λ q p. cc);
      districts = kept_districts t0 t values more (key.OrderLine k) others a (λ q p. cc);
      customers = kept_customers t0 t values more (key.OrderLine k) others a (λ q p. cc);
      texts = kept_texts t0 t values more (key.OrderLine k) others a (λ q p. cc);
      new_orders = kept_new_orders t0 t values more (key.OrderLine k) others a (λ q p. cc);
      orders = kept_orders t0 t values more (key.OrderLine k) others a (λ q p. cc);
      lines = subst (IsTableOf (IsLineKey t0.scale) (λ k r. IsLineRow t0.scale r) line_words (λ q. more (key.OrderLine q))) (sym e)
          (same_insert exact_line t.lines k r (IsLineKey t0.scale) (λ k r. IsLineRow t0.scale r) line_words _ _ is is_in (here ∙ ap Some same)
          (λ q at other. others (key.OrderLine q) at (λ (p : key.OrderLine q ≡ key.OrderLine k). other cc)) a.lines);
      stock = kept_stock t0 t values more (key.OrderLine k) others a (λ q p. cc);
    };
  }

  pub puts_stock : (k : StockKey) (r : Stock) (rows : FinMap stock_cmp Stock) → rows ≡ insert t.stock k r → IsStockKey t0.scale k → IsStockRow r
      → ws ≡ stock_words r → Puts t0 (key.Stock k) (Some ws) t (record t { stock = rows })
  puts_stock k r rows e is is_in same = record {
    history = refl;
    tables = λ values more here others a. record {
      scale = a.scale;
      keeps = a.keeps;
      items = a.items;
      warehouses = kept_warehouses t0 t values more (key.Stock k) others a (λ q p. cc);
      districts = kept_districts t0 t values more (key.Stock k) others a (λ q p. cc);
      customers = kept_customers t0 t values more (key.Stock k) others a (λ q p. cc);
      texts = kept_texts t0 t values more (key.Stock k) others a (λ q p. cc);
      new_orders = kept_new_orders t0 t values more (key.Stock k) others a (λ q p. cc);
      orders = kept_orders t0 t values more (key.Stock k) others a (λ q p. cc);
      lines = kept_lines t0 t values more (key.Stock k) others a (λ q p. cc);
      stock = subst (IsTableOf (IsStockKey t0.scale) (λ k r. IsStockRow r) stock_words (λ q. more (key.Stock q))) (sym e)
          (same_insert exact_stock t.stock k r (IsStockKey t0.scale) (λ k r. IsStockRow r) stock_words _ _ is is_in (here ∙ ap Some same)
          (λ q at other. others (key.Stock q) at (λ (p : key.Stock q ≡ key.Stock k). other cc)) a.stock);
    };
  }

-- what `remove` of a map leaves
pub remove-view : {K X : Type 0} {R : K → K → Ordering} → IsExact R → (m n : BTreeMap K X) (k : K) → tree.Updates R m n k None
    → from_entries {R = R} n.entries ≡ remove (from_entries m.entries) k
remove-view {R} o m n k h = same_map o.total o.same _ _ (λ q.
    get-view o n q ∙ h.0 q ∙ ap (λ b. cond b None (tree.get R m q)) ((eq_by_cmp_equiv o.total).symm k q)
    ∙ sym (get-remove o.total (from_entries m.entries) k q ∙ ap (cond (is_at (R q) k) None) (get-view o m q)))

-- a NEW-ORDER row that is taken out leaves its record absent
pub takes_new_order : (t0 t : Database) (k : OrderKey) (rows : FinMap order_cmp NewOrder) → rows ≡ remove t.new_orders k
    → Puts t0 (key.NewOrder k) None t (record t { new_orders = rows })
takes_new_order t0 t k rows e = record {
  history = refl;
  tables = λ values more here others a. record {
    scale = a.scale;
    keeps = a.keeps;
    items = a.items;
    warehouses = kept_warehouses t0 t values more (key.NewOrder k) others a (λ q p. cc);
    districts = kept_districts t0 t values more (key.NewOrder k) others a (λ q p. cc);
    customers = kept_customers t0 t values more (key.NewOrder k) others a (λ q p. cc);
    texts = kept_texts t0 t values more (key.NewOrder k) others a (λ q p. cc);
    new_orders = subst (IsTableOf (IsOrderKey t0.scale) (λ k r. Unit {0}) new_order_words (λ q. more (key.NewOrder q))) (sym e)
        (same_remove exact_order t.new_orders k (IsOrderKey t0.scale) (λ k r. Unit {0}) new_order_words _ _ here
        (λ q at other. others (key.NewOrder q) at (λ (p : key.NewOrder q ≡ key.NewOrder k). other cc)) a.new_orders);
    orders = kept_orders t0 t values more (key.NewOrder k) others a (λ q p. cc);
    lines = kept_lines t0 t values more (key.NewOrder k) others a (λ q p. cc);
    stock = kept_stock t0 t values more (key.NewOrder k) others a (λ q p. cc);
  };
}

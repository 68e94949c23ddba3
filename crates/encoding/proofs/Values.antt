-- What the records of tables hold may be held; and tables of some values hold these, and are of the population.
use Rattle.std.proofs.Common.{◌≡◌, ℕ, List, Option, Some, None, IsSome, true≢false, refl, sym, ap, ◌∙◌, subst}
use Rattle.std.specs.Option.{option_map}
use Rattle.std.specs.FinMap.{FinMap, get}
use Rattle.std.specs.declared.cmp.Ordering.{Ordering}
use Rattle.std.proofs.lemmas.Option.{none-some}
use Rattle.customer_data.specs.Text.{IsData}
use Rattle.customer_data.specs.Words.{data_words}
use Rattle.tables.specs.Maps.{RowsAt}
use Rattle.tables.specs.Keys.{IsWarehouseKey, IsDistrictKey, IsCustomerKey, IsStockKey}
use Rattle.tables.specs.WellFormed.{IsWellFormed, IsMoney, IsDistrictRow, IsCustomerRow, IsStockRow}
use Rattle.tables.specs.Constant.{IsOf}
use Rattle.tables.specs.Database.{Database}
use Rattle.tables.specs.Records.{key_of, IsRecordKey}
use Rattle.tables.specs.Rows.{row_at, rows, warehouse_words, district_words, customer_words, stock_words}
use Rattle.tables.specs.declared.records.RecordKey.{RecordKey}
use Rattle.tables.specs.declared.records.RecordKey.TheVariants as key
use Rattle.tables.proofs.Numbers.{numbered}
use Rattle.rows.specs.Laws.{order_within}
use Rattle.encoding.specs.Held.{IsTableRecord, by_key, IsTableOf, AreTables}
use Rattle.encoding.specs.Newest.{AreLawful}
use Rattle.encoding.specs.Puts.{IsRow, MayHold}
use Rattle.encoding.proofs.Numbered.{IsTableKey, among_all, table_key}

-- the value at a key where a row always stands
row_there : {K X : Type 0} {R : K → K → Ordering} (IsKey : K → Type 0) (IsIn : X → Type 0) (words : X → List ℕ) (m : FinMap R X) (k : K) → RowsAt IsKey m
    → ((r : X) → get m k ≡ Some r → IsIn r) → IsKey k → IsRow words IsIn (option_map words (get m k))
row_there {X = X} IsKey IsIn words m k at is_in is = found (get m k) refl ((at k).1 is)
  where
    found : (w : Option X) → get m k ≡ w → IsSome w → IsRow words IsIn (option_map words (get m k))
    found None e some = absurd (true≢false (sym some))
    found (Some r) e some = (r, ap (option_map words) e, is_in r e)

pub lawful_rows : (t : Database) → IsWellFormed t → (k : RecordKey) → IsRecordKey t.scale k → MayHold t.scale k (row_at t k)
lawful_rows t wf (key.Warehouse k) is = row_there (IsWarehouseKey t.scale) (λ r. IsMoney r.year_to_date) warehouse_words t.warehouses k wf.warehouses
    (wf.warehouse_rows k) is
lawful_rows t wf (key.District k) is = row_there (IsDistrictKey t.scale) (IsDistrictRow t.scale) district_words t.districts k wf.districts (wf.district_rows k)
    is
lawful_rows t wf (key.Customer k) is = row_there (IsCustomerKey t.scale) IsCustomerRow customer_words t.customers k wf.customers (wf.customer_rows k) is
lawful_rows t wf (key.NewOrder k) is = (get t.new_orders k, refl, λ r e. tt)
lawful_rows t wf (key.Order k) is =
    (get t.orders k, refl, λ r. order_within t k r wf is)
lawful_rows t wf (key.OrderLine k) is = (get t.lines k, refl, wf.line_rows k)
lawful_rows t wf (key.Stock k) is = row_there (IsStockKey t.scale) IsStockRow stock_words t.stock k wf.stock (wf.stock_rows k) is
lawful_rows t wf (key.Oldest k) is = tt
lawful_rows t wf (key.Last k) is = tt
lawful_rows t wf (key.CustomerData k) is = row_there (IsCustomerKey t.scale) IsData data_words t.texts k wf.texts (wf.text_rows k) is

row_held : (t0 : Database) (values : RecordKey → Option (List ℕ)) (t : Database) → AreTables t0 values t → (k : RecordKey) → IsRecordKey t0.scale k → IsTableKey k
    → row_at t k ≡ values k
row_held t0 values t a (key.Warehouse k) is row = a.warehouses.rows k is
row_held t0 values t a (key.District k) is row = a.districts.rows k is
row_held t0 values t a (key.Customer k) is row = a.customers.rows k is
row_held t0 values t a (key.NewOrder k) is row = a.new_orders.rows k is
row_held t0 values t a (key.Order k) is row = a.orders.rows k is
row_held t0 values t a (key.OrderLine k) is row = a.lines.rows k is
row_held t0 values t a (key.Stock k) is row = a.stock.rows k is
row_held t0 values t a (key.Oldest k) is row = absurd row
row_held t0 values t a (key.Last k) is row = absurd row
row_held t0 values t a (key.CustomerData k) is row = a.texts.rows k is

pub lawful_values : (t : Database) → IsWellFormed t → AreLawful t.scale (rows t)
lawful_values t wf n h = lawful_rows t wf (key_of t.scale n) (numbered t.scale n (among_all t.scale n h)).0

pub rows_held : (t0 : Database) (values : ℕ → Option (List ℕ)) (t : Database) → AreTables t0 (by_key t0.scale values) t → (n : ℕ) → IsTableRecord t0.scale n
    → rows t n ≡ values n
rows_held t0 values t a n h =
    let s = t0.scale in
    let named = numbered s n (among_all s n h) in
    ap (λ z. row_at t (key_of z n)) a.scale ∙ (row_held t0 (by_key s values) t a (key_of s n) named.0 (table_key s n h) ∙ ap values named.1)

module _ {K X Y : Type 0} {R : K → K → Ordering} (IsKey : K → Type 0) (f : X → Y) (m first : FinMap R X) where
  -- a column that never changes, where rows always stand
  column_of : RowsAt IsKey first → ((k : K) → IsKey k → IsSome (get m k)) → ((k : K) (r : X) → get m k ≡ Some r → option_map f (get first k) ≡ Some (f r))
      → (k : K) → option_map f (get m k) ≡ option_map f (get first k)
  column_of at there each k = by_row (get m k) (get first k) refl refl
    where
      by_row : (v w : Option X) → get m k ≡ v → get first k ≡ w → option_map f (get m k) ≡ option_map f (get first k)
      by_row (Some r) w e g = ap (option_map f) e ∙ sym (each k r e)
      by_row None None e g = ap (option_map f) (e ∙ sym g)
      by_row None (Some r) e g = absurd (true≢false (sym (subst IsSome e (there k ((at k).0 (subst IsSome (sym g) refl))))))

-- where a value is a row's, a row stands
pub stands : {K X : Type 0} {R : K → K → Ordering} (IsKey : K → Type 0) (IsIn : K → X → Type 0) (IsOne : X → Type 0) (words : X → List ℕ)
    (value : K → Option (List ℕ)) (m : FinMap R X) → IsTableOf IsKey IsIn words value m → ((k : K) → IsKey k → IsRow words IsOne (value k)) → (k : K) → IsKey k
    → IsSome (get m k)
stands {X = X} IsKey IsIn IsOne words value m a row k is = found (get m k) refl
  where
    found : (w : Option X) → get m k ≡ w → IsSome (get m k)
    found None e = absurd (none-some _ (ap (option_map words) (sym e) ∙ (a.rows k is ∙ (row k is).1)))
    found (Some r) e = subst IsSome (sym e) refl

pub is_of : (t0 : Database) (values : RecordKey → Option (List ℕ)) (t : Database) → IsWellFormed t0
    → ((k : RecordKey) → IsRecordKey t0.scale k → MayHold t0.scale k (values k)) → AreTables t0 values t → IsOf t0 t
is_of t0 values t wf may a =
    let s = t0.scale in
    let warehouse = stands (IsWarehouseKey s) _ _ warehouse_words _ t.warehouses a.warehouses (λ k. may (key.Warehouse k)) in
    let district = stands (IsDistrictKey s) _ _ district_words _ t.districts a.districts (λ k. may (key.District k)) in
    let customer = stands (IsCustomerKey s) _ _ customer_words _ t.customers a.customers (λ k. may (key.Customer k)) in
    record {
      scale = a.scale;
      keeps = a.keeps;
      warehouse_taxes = column_of (IsWarehouseKey s) (λ r. r.tax) t.warehouses t0.warehouses wf.warehouses warehouse (λ k r e. (a.warehouses.each k r e).tax);
      district_taxes = column_of (IsDistrictKey s) (λ r. r.tax) t.districts t0.districts wf.districts district (λ k r e. (a.districts.each k r e).tax);
      first_names = column_of (IsCustomerKey s) (λ r. r.first_name) t.customers t0.customers wf.customers customer
          (λ k r e. (a.customers.each k r e).first_name);
      last_names = column_of (IsCustomerKey s) (λ r. r.last_name) t.customers t0.customers wf.customers customer (λ k r e. (a.customers.each k r e).last_name);
      credit = column_of (IsCustomerKey s) (λ r. r.credit) t.customers t0.customers wf.customers customer (λ k r e. (a.customers.each k r e).credit);
      discounts = column_of (IsCustomerKey s) (λ r. r.discount) t.customers t0.customers wf.customers customer (λ k r e. (a.customers.each k r e).discount);
      items = a.items;
    }

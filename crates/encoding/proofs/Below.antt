-- Tables that are built record by record: the records below a number hold their values, and the others nothing yet.
use Rattle.std.proofs.Common.{◌≡◌, ◌≢◌, ℕ, ◌+◌, ◌<◌, ◌≤◌, inl, inr, IsSome, List, Option, Some, None, true, true≢false, refl, sym, ap, ◌∙◌}
use Rattle.std.proofs.Common.{subst, arith}
use Rattle.std.specs.Option.{option_map}
use Rattle.std.specs.FinMap.{empty, get-empty}
use Rattle.std.specs.declared.cmp.Ordering.{Ordering}
use Rattle.std.proofs.lemmas.Option.{none-some}
use Rattle.std.proofs.lemmas.Bool.Decides.{nat_tests}
use Rattle.std.specs.Ordering.{nat_cmp}
use Rattle.customer_data.specs.Text.{IsData}
use Rattle.customer_data.specs.Words.{data_words}
use Rattle.tables.specs.Sizes.{Sizes}
use Rattle.tables.specs.Keys.{IsWarehouseKey, IsDistrictKey, IsCustomerKey, IsOrderKey, IsLineKey, IsStockKey, district_cmp, customer_cmp, order_cmp, line_cmp}
use Rattle.tables.specs.Keys.{stock_cmp}
use Rattle.tables.specs.WellFormed.{IsLineRow, IsStockRow}
use Rattle.tables.specs.Database.{Database, empty_database}
use Rattle.tables.specs.Records.{narrow_count, record_count, number_of_key, key_of, IsRecordKey}
use Rattle.tables.specs.Rows.{rows, warehouse_words, district_words, customer_words, new_order_words, order_words, line_words, stock_words}
use Rattle.tables.specs.declared.rows.History.{History}
use Rattle.tables.specs.declared.records.RecordKey.{RecordKey}
use Rattle.tables.specs.declared.records.RecordKey.TheVariants as key
use Rattle.tables.proofs.Numbers.{named, numbered}
use Rattle.rows.specs.Columns.{IsOrderOfScale}
use Rattle.encoding.specs.Building.{below}
use Rattle.encoding.specs.Held.{row_count, IsTableRecord, by_key, IsTableOf, IsWarehouseOf, IsDistrictOf, IsCustomerOf, AreTables}
use Rattle.encoding.specs.Newest.{AreLawful}
use Rattle.encoding.specs.Puts.{MayHold, Puts}
use Rattle.encoding.proofs.Numbered.{IsTableKey, table_record}
use Rattle.encoding.proofs.Puts.{same_values}
use Rattle.encoding.proofs.Values.{rows_held}

below_there : (values : ℕ → Option (List ℕ)) (end n : ℕ) → n < end → below end values n ≡ values n
below_there values end n h = grind (arith, nat_tests)

below_past : (values : ℕ → Option (List ℕ)) (end n : ℕ) → end ≤ n → below end values n ≡ None
below_past values end n h = grind (arith, nat_tests)

below_other : (values : ℕ → Option (List ℕ)) (end n : ℕ) → n ≢ end → below (end + 1) values n ≡ below end values n
below_other values end n h = grind (arith, nat_tests)

below_absent : (values : ℕ → Option (List ℕ)) (end n : ℕ) → values end ≡ None → below (end + 1) values n ≡ below end values n
below_absent values end n h = grind (arith, nat_tests)

-- tables of values that are the same at the rows' records
agreeing : (t0 t : Database) (values more : RecordKey → Option (List ℕ)) → ((k : RecordKey) → IsRecordKey t0.scale k → IsTableKey k → more k ≡ values k)
    → AreTables t0 values t → AreTables t0 more t
agreeing t0 t values more same a = let s = t0.scale in record {
  scale = a.scale;
  keeps = a.keeps;
  items = a.items;
  warehouses = same_values (IsWarehouseKey s) (IsWarehouseOf t0) warehouse_words _ _ t.warehouses (λ k is. same (key.Warehouse k) is tt) a.warehouses;
  districts = same_values (IsDistrictKey s) (IsDistrictOf t0) district_words _ _ t.districts (λ k is. same (key.District k) is tt) a.districts;
  customers = same_values (IsCustomerKey s) (IsCustomerOf t0) customer_words _ _ t.customers (λ k is. same (key.Customer k) is tt) a.customers;
  texts = same_values (IsCustomerKey s) (λ k text. IsData text) data_words _ _ t.texts (λ k is. same (key.CustomerData k) is tt) a.texts;
  new_orders = same_values (IsOrderKey s) (λ k r. Unit {0}) new_order_words _ _ t.new_orders (λ k is. same (key.NewOrder k) is tt) a.new_orders;
  orders = same_values (IsOrderKey s) (λ k r. IsOrderOfScale s r) order_words _ _ t.orders (λ k is. same (key.Order k) is tt) a.orders;
  lines = same_values (IsLineKey s) (λ k r. IsLineRow s r) line_words _ _ t.lines (λ k is. same (key.OrderLine k) is tt) a.lines;
  stock = same_values (IsStockKey s) (λ k r. IsStockRow r) stock_words _ _ t.stock (λ k is. same (key.Stock k) is tt) a.stock;
}

-- tables of some values are tables of what their own records hold
pub own_rows : (t0 t : Database) (values : ℕ → Option (List ℕ)) → AreTables t0 (by_key t0.scale values) t → AreTables t0 (by_key t0.scale (rows t)) t
own_rows t0 t values a =
    agreeing t0 t (by_key t0.scale values) (by_key t0.scale (rows t))
    (λ k is row. rows_held t0 values t a (number_of_key t0.scale k) (table_record t0.scale k is row)) a

-- a table without rows
no_rows : {K X : Type 0} (R : K → K → Ordering) (IsKey : K → Type 0) (IsIn : K → X → Type 0) (words : X → List ℕ)
    → IsTableOf IsKey IsIn words (λ k. None) (empty {X = X} {R = R})
no_rows R IsKey IsIn words = record {
  within = λ k some. absurd (true≢false (sym (subst IsSome (get-empty R k) some)));
  each = λ k r e. absurd (none-some r (sym (get-empty R k) ∙ e));
  rows = λ k is. ap (option_map words) (get-empty R k);
}

pub no_records : (t0 : Database) (added : List History) → t0.keeps_texts ≡ true
    → AreTables t0 (λ k. None) (record (empty_database t0.scale) { items = t0.items; history = added })
no_records t0 added none = let s = t0.scale in record {
  scale = refl;
  keeps = sym none;
  items = refl;
  warehouses = no_rows nat_cmp (IsWarehouseKey s) (IsWarehouseOf t0) warehouse_words;
  districts = no_rows district_cmp (IsDistrictKey s) (IsDistrictOf t0) district_words;
  customers = no_rows customer_cmp (IsCustomerKey s) (IsCustomerOf t0) customer_words;
  texts = no_rows customer_cmp (IsCustomerKey s) (λ k text. IsData text) data_words;
  new_orders = no_rows order_cmp (IsOrderKey s) (λ k r. Unit {0}) new_order_words;
  orders = no_rows order_cmp (IsOrderKey s) (λ k r. IsOrderOfScale s r) order_words;
  lines = no_rows line_cmp (IsLineKey s) (λ k r. IsLineRow s r) line_words;
  stock = no_rows stock_cmp (IsStockKey s) (λ k r. IsStockRow r) stock_words;
}

module _ (t0 : Database) (values : ℕ → Option (List ℕ)) where
  pub begins : (t : Database) → AreTables t0 (λ k. None) t → AreTables t0 (by_key t0.scale (below 0 values)) t
  begins t = agreeing t0 t _ _ (λ k is row. below_past values 0 (number_of_key t0.scale k) (omega arith))

  -- the next record is put
  pub goes_on : (old new : Database) (n : ℕ) (words : List ℕ) → n < record_count t0.scale → values n ≡ Some words
      → Puts t0 (key_of t0.scale n) (Some words) old new → AreTables t0 (by_key t0.scale (below n values)) old
      → AreTables t0 (by_key t0.scale (below (n + 1) values)) new
  goes_on old new n words h is puts a =
      let s = t0.scale in
      let at : number_of_key s (key_of s n) ≡ n = (numbered s n h).1 in
      let here = ap (below (n + 1) values) at ∙ (below_there values (n + 1) n (omega arith) ∙ is) in
      puts.tables _ (by_key s (below (n + 1) values)) here
      (λ j is_key other. below_other values n (number_of_key s j) (λ e. other (sym (named s j is_key).1 ∙ ap (key_of s) e))) a

  -- the next record is absent
  pub passes : (t : Database) (n : ℕ) → values n ≡ None → AreTables t0 (by_key t0.scale (below n values)) t
      → AreTables t0 (by_key t0.scale (below (n + 1) values)) t
  passes t n is = agreeing t0 t _ _ (λ k is_key row. below_absent values n (number_of_key t0.scale k) is)

  -- the index records are passed over
  skipped : (n : ℕ) → IsTableRecord t0.scale n → below (narrow_count t0.scale) values n ≡ below (row_count t0.scale) values n
  skipped n (inl low) = below_there values (narrow_count t0.scale) n (omega (arith, low)) ∙ sym (below_there values (row_count t0.scale) n low)
  skipped n (inr high) = below_past values (narrow_count t0.scale) n high.0 ∙ sym (below_past values (row_count t0.scale) n (omega (arith, high.0)))

  pub skips : (t : Database) → AreTables t0 (by_key t0.scale (below (row_count t0.scale) values)) t
      → AreTables t0 (by_key t0.scale (below (narrow_count t0.scale) values)) t
  skips t = agreeing t0 t _ _ (λ k is row. skipped (number_of_key t0.scale k) (table_record t0.scale k is row))

  pub ends : (t : Database) (n : ℕ) → record_count t0.scale ≤ n → AreTables t0 (by_key t0.scale (below n values)) t → AreTables t0 (by_key t0.scale values) t
  ends t n all = agreeing t0 t _ _ (λ k is row. sym (below_there values n (number_of_key t0.scale k) (omega (arith, all, (named t0.scale k is).0))))

-- lawful values, told by key
pub lawful_by_key : (s : Sizes) (values : ℕ → Option (List ℕ)) → AreLawful s values → (k : RecordKey) → IsRecordKey s k → MayHold s k (by_key s values k)
lawful_by_key s values lawful = by_kind
  where
    row : (k : RecordKey) → IsRecordKey s k → IsTableKey k → MayHold s k (by_key s values k)
    row k is at = subst (λ j. MayHold s j (by_key s values k)) (named s k is).1 (lawful (number_of_key s k) (table_record s k is at))

    by_kind : (k : RecordKey) → IsRecordKey s k → MayHold s k (by_key s values k)
    by_kind (key.Oldest k) is = tt
    by_kind (key.Last k) is = tt
    by_kind (key.CustomerData k) is = row (key.CustomerData k) is tt
    by_kind (key.Warehouse k) is = row (key.Warehouse k) is tt
    by_kind (key.District k) is = row (key.District k) is tt
    by_kind (key.Customer k) is = row (key.Customer k) is tt
    by_kind (key.NewOrder k) is = row (key.NewOrder k) is tt
    by_kind (key.Order k) is = row (key.Order k) is tt
    by_kind (key.OrderLine k) is = row (key.OrderLine k) is tt
    by_kind (key.Stock k) is = row (key.Stock k) is tt

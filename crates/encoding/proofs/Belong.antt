-- Tables whose records hold what they may are well-formed where rows belong to orders.
use Rattle.std.proofs.Common.{◌≡◌, ◌↔◌, ℕ, List, Option, Some, IsSome, refl, sym, ◌∙◌, subst, All}
use Rattle.std.specs.FinMap.{FinMap, get}
use Rattle.std.specs.declared.cmp.Ordering.{Ordering}
use Rattle.customer_data.specs.Text.{IsData}
use Rattle.customer_data.specs.Words.{data_words}
use Rattle.tables.specs.Maps.{RowsAt}
use Rattle.tables.specs.Keys.{IsWarehouseKey, IsDistrictKey, IsCustomerKey, IsItemKey, IsStockKey}
use Rattle.tables.specs.WellFormed.{IsWellFormed, IsMoney, IsDistrictRow, IsCustomerRow, IsHistoryRow, IsItemRow, IsStockRow, orderer}
use Rattle.tables.specs.Reach.{BelongToOrders}
use Rattle.tables.specs.Constant.{IsOf}
use Rattle.tables.specs.Database.{Database}
use Rattle.tables.specs.Records.{IsRecordKey}
use Rattle.tables.specs.Rows.{warehouse_words, district_words, customer_words, stock_words}
use Rattle.tables.specs.declared.keys.OrderKey.{OrderKey}
use Rattle.tables.specs.declared.rows.Order.{Order}
use Rattle.tables.specs.declared.records.RecordKey.{RecordKey}
use Rattle.tables.specs.declared.records.RecordKey.TheVariants as key
use Rattle.tables_laws.proofs.NamesKept.{last_names_stay}
use Rattle.tables_laws.proofs.Rows.{within_each}
use Rattle.encoding.specs.Held.{IsTableOf, AreTables}
use Rattle.encoding.specs.Puts.{IsRow, MayHold}
use Rattle.encoding.proofs.Values.{stands, is_of}

-- rows stand exactly at the keys, where each key's value is a row's
all_stand : {K X : Type 0} {R : K → K → Ordering} (IsKey : K → Type 0) (IsIn : K → X → Type 0) (IsOne : X → Type 0) (words : X → List ℕ)
    (value : K → Option (List ℕ)) (m : FinMap R X) → IsTableOf IsKey IsIn words value m → ((k : K) → IsKey k → IsRow words IsOne (value k))
    → RowsAt IsKey m
all_stand IsKey IsIn IsOne words value m a row k = (a.within k, stands IsKey IsIn IsOne words value m a row k)

module _ (t0 t : Database) (values : RecordKey → Option (List ℕ)) (wf : IsWellFormed t0)
    (may : (k : RecordKey) → IsRecordKey t0.scale k → MayHold t0.scale k (values k)) (a : AreTables t0 values t) where
  -- the tables, with the scale that theirs is equal to
  abbrev scaled : Database
  scaled = record t { scale = t0.scale }

  of_first : IsOf t0 scaled
  of_first = subst (IsOf t0) (λ i. record t { scale = a.scale i }) (is_of t0 values t wf may a)

  customers_stand : RowsAt (IsCustomerKey t0.scale) t.customers
  customers_stand = all_stand (IsCustomerKey t0.scale) _ IsCustomerRow customer_words _ t.customers a.customers (λ k. may (key.Customer k))

  order_there : (k : OrderKey) (r : Order) → get t.orders k ≡ Some r → IsSome (get t.customers (orderer k r))
  order_there k r e =
      let is = a.orders.within k (subst IsSome (sym e) refl) in
      (customers_stand (orderer k r)).1 (is.0, is.1, (a.orders.each k r e).customer)

  well_formed : All (IsHistoryRow t0.scale) t.history → BelongToOrders t → IsWellFormed scaled
  well_formed history belong = record {
    warehouses = all_stand (IsWarehouseKey t0.scale) _ (λ r. IsMoney r.year_to_date) warehouse_words _ t.warehouses a.warehouses (λ k. may (key.Warehouse k));
    districts = all_stand (IsDistrictKey t0.scale) _ (IsDistrictRow t0.scale) district_words _ t.districts a.districts (λ k. may (key.District k));
    customers = customers_stand;
    stock = all_stand (IsStockKey t0.scale) _ IsStockRow stock_words _ t.stock a.stock (λ k. may (key.Stock k));
    texts = all_stand (IsCustomerKey t0.scale) _ IsData data_words _ t.texts a.texts (λ k. may (key.CustomerData k));
    new_orders = a.new_orders.within;
    orders = a.orders.within;
    lines = a.lines.within;
    items = λ k. subst (λ m. IsSome (get m k) → IsItemKey t0.scale k) (sym a.items) (wf.items k);
    warehouse_rows = λ k r e. (a.warehouses.each k r e).range;
    district_rows = λ k r e. (a.districts.each k r e).range;
    customer_rows = λ k r e. (a.customers.each k r e).range;
    text_rows = a.texts.each;
    history_rows = history;
    order_rows = λ k r e. (a.orders.each k r e).row;
    line_rows = a.lines.each;
    item_rows = λ k r. subst (λ m. get m k ≡ Some r → IsItemRow r) (sym a.items) (wf.item_rows k r);
    stock_rows = a.stock.each;
    order_customers = order_there;
    new_order_orders = within_each (λ k. IsSome (get t.orders k)) t.new_orders belong.new_orders;
    line_orders = belong.lines;
    last_names = last_names_stay t0 scaled of_first wf.last_names;
  }

pub well_formed_where_rows_belong : (t0 t : Database) (values : RecordKey → Option (List ℕ)) → IsWellFormed t0
    → ((k : RecordKey) → IsRecordKey t0.scale k → MayHold t0.scale k (values k)) → AreTables t0 values t → All (IsHistoryRow t0.scale) t.history
    → IsWellFormed t ↔ BelongToOrders t
well_formed_where_rows_belong t0 t values wf may a history = (
  (λ well. record { new_orders = λ k r e. well.new_order_orders k (subst IsSome (sym e) refl); lines = well.line_orders }),
  (λ belong. subst IsWellFormed (λ i. record t { scale = sym a.scale i }) (well_formed t0 t values wf may a history belong)),
)

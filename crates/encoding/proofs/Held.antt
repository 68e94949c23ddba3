-- Well-formed tables of a population are those that their records say.
use Rattle.std.proofs.Common.{◌≡◌, ℕ, List, Option, Some, refl, sym, ap, ◌∙◌, subst}
use Rattle.std.specs.Option.{option_map}
use Rattle.std.specs.FinMap.{get}
use Rattle.tables.specs.Sizes.{Sizes, IsNumber}
use Rattle.tables.specs.Keys.{IsWarehouseKey, IsDistrictKey, IsCustomerKey, IsOrderKey, IsLineKey, IsStockKey}
use Rattle.tables.specs.WellFormed.{IsWellFormed, IsDistrictRow, IsLineRow, orderer}
use Rattle.tables.specs.Constant.{IsOf}
use Rattle.tables.specs.Database.{Database}
use Rattle.tables.specs.Records.{number_of_key, IsRecordKey}
use Rattle.tables.specs.Rows.{row_at, rows}
use Rattle.tables.specs.declared.keys.OrderKey.{OrderKey}
use Rattle.tables.specs.declared.rows.Order.{Order}
use Rattle.tables.specs.declared.records.RecordKey.{RecordKey}
use Rattle.tables.specs.declared.records.RecordKey.TheVariants as key
use Rattle.encoding.specs.Held.{IsTableRecord, by_key, AreTables}
use Rattle.encoding.proofs.Numbered.{IsTableKey, table_record, record_at}
use Rattle.encoding.proofs.Determined.{determined}

module _ (t0 t : Database) (of : IsOf t0 t) (wf : IsWellFormed t) (values : ℕ → Option (List ℕ))
    (agree : (n : ℕ) → IsTableRecord t0.scale n → rows t n ≡ values n) where
  -- what the record of a row's key holds
  held : (k : RecordKey) → IsRecordKey t0.scale k → IsTableKey k → row_at t k ≡ by_key t0.scale values k
  held k is row = sym (record_at t0 t of k is) ∙ agree (number_of_key t0.scale k) (table_record t0.scale k is row)

  -- an order's customer
  ordered : (k : OrderKey) (r : Order) → get t.orders k ≡ Some r → IsNumber t0.scale.customers r.customer
  ordered k r e = subst (λ (s : Sizes). IsNumber s.customers r.customer) of.scale ((wf.customers (orderer k r)).0 (wf.order_customers k r e)).2

  pub are_tables : AreTables t0 (by_key t0.scale values) t
  are_tables = record {
    scale = of.scale;
    keeps = of.keeps;
    items = of.items;
    warehouses = record {
      within = λ k some. subst (λ s. IsWarehouseKey s k) of.scale ((wf.warehouses k).0 some);
      each = λ k r e. record { range = wf.warehouse_rows k r e; tax = sym (of.warehouse_taxes k) ∙ ap (option_map (λ r. r.tax)) e };
      rows = λ k is. held (key.Warehouse k) is tt;
    };
    districts = record {
      within = λ k some. subst (λ s. IsDistrictKey s k) of.scale ((wf.districts k).0 some);
      each = λ k r e. record {
        range = subst (λ s. IsDistrictRow s r) of.scale (wf.district_rows k r e);
        tax = sym (of.district_taxes k) ∙ ap (option_map (λ r. r.tax)) e;
      };
      rows = λ k is. held (key.District k) is tt;
    };
    customers = record {
      within = λ k some. subst (λ s. IsCustomerKey s k) of.scale ((wf.customers k).0 some);
      each = λ k r e. record {
        range = wf.customer_rows k r e;
        first_name = sym (of.first_names k) ∙ ap (option_map (λ r. r.first_name)) e;
        last_name = sym (of.last_names k) ∙ ap (option_map (λ r. r.last_name)) e;
        credit = sym (of.credit k) ∙ ap (option_map (λ r. r.credit)) e;
        discount = sym (of.discounts k) ∙ ap (option_map (λ r. r.discount)) e;
      };
      rows = λ k is. held (key.Customer k) is tt;
    };
    texts = record {
      within = λ k some. subst (λ s. IsCustomerKey s k) of.scale ((wf.texts k).0 some);
      each = wf.text_rows;
      rows = λ k is. held (key.CustomerData k) is tt;
    };
    new_orders = record {
      within = λ k some. subst (λ s. IsOrderKey s k) of.scale (wf.new_orders k some);
      each = λ k r e. tt;
      rows = λ k is. held (key.NewOrder k) is tt;
    };
    orders = record {
      within = λ k some. subst (λ s. IsOrderKey s k) of.scale (wf.orders k some);
      each = λ k r e. record { row = wf.order_rows k r e; customer = ordered k r e };
      rows = λ k is. held (key.Order k) is tt;
    };
    lines = record {
      within = λ k some. subst (λ s. IsLineKey s k) of.scale (wf.lines k some);
      each = λ k r e. subst (λ s. IsLineRow s r) of.scale (wf.line_rows k r e);
      rows = λ k is. held (key.OrderLine k) is tt;
    };
    stock = record {
      within = λ k some. subst (λ s. IsStockKey s k) of.scale ((wf.stock k).0 some);
      each = λ k r e. wf.stock_rows k r e;
      rows = λ k is. held (key.Stock k) is tt;
    };
  }

pub one_database : (t0 t u : Database) → IsOf t0 t → IsOf t0 u → IsWellFormed t → IsWellFormed u → ((n : ℕ) → IsTableRecord t0.scale n → rows t n ≡ rows u n)
    → t.history ≡ u.history → t ≡ u
one_database t0 t u of_t of_u wf_t wf_u same history =
    determined t0 (by_key t0.scale (rows u)) t u (are_tables t0 t of_t wf_t (rows u) same) (are_tables t0 u of_u wf_u (rows u) (λ n h. refl)) history

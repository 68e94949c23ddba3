-- The plain population's rows are among those that a seeded one may have, and its lines are five an order.
use Rattle.std.proofs.Common.{◌≡◌, ℕ, ◌*◌, ◌≤◌, pos, ◌≤ℤ◌, Bool, true, false, cond, not, Some, None, is_none, refl, sym, ap, ◌∙◌, subst, arith}
use Rattle.std.specs.Option.{ForSome, option_map_or}
use Rattle.std.proofs.lemmas.Int.{ints}
use Rattle.tables.specs.Sizes.{Sizes, IsNumber}
use Rattle.tables.specs.Keys.{order_of}
use Rattle.tables.specs.Database.{Database}
use Rattle.tables.specs.declared.keys.LineKey.{LineKey}
use Rattle.tables.specs.declared.rows.Order.{Order}
use Rattle.population_tables.specs.Plain.{is_delivered, IsPlain, IsPlainOrderKey, plain_warehouse, plain_district, plain_customer}
use Rattle.population_tables.specs.Plain.{plain_order, plain_line, plain_item, plain_stock}
use Rattle.population_tables.specs.Seeded.{IsSeededItem, IsSeededWarehouse, IsSeededStock, IsSeededDistrict, IsSeededCustomer, IsSeededOrder, IsSeededLine}
use Rattle.population_tables.specs.First.{IsFit, Plain, AreFirstTables, first_line_count, IsSeeded}
use Rattle.population_tables.proofs.TableRows.{weaker, is_table}

-- a number that may be null, and is 1
pub one_or_null : (P : ℕ → Type 0) (b : Bool) → P 1 → ForSome (cond b (Some 1) None) P
one_or_null P true one x e = let same : 1 ≡ x = cc e in subst P same one
one_or_null P false one x e = cc e

pub null_unless : (b : Bool) → is_none {T = ℕ} (cond b (Some 1) None) ≡ not b
null_unless true = refl
null_unless false = refl

amount_free : (b : Bool) (n : ℕ) → b ≡ true → cond b (pos 0) (pos n) ≡ pos 0
amount_free true n e = refl
amount_free false n e = cc e

amount_least : (b : Bool) (n : ℕ) → pos 0 ≤ℤ cond b (pos 0) (pos n)
amount_least true n = omega (arith, ints)
amount_least false n = omega (arith, ints)

amount_most : (b : Bool) (n : ℕ) → n ≤ 999999 → cond b (pos 0) (pos n) ≤ℤ pos 999999
amount_most true n fits = omega (arith, ints)
amount_most false n fits = omega (arith, ints)

item_row : (i : ℕ) → IsSeededItem (plain_item i)
item_row i = record { at_least = omega (arith, ints); at_most = omega (arith, ints) }

warehouse_row : (s : Sizes) → IsSeededWarehouse s (plain_warehouse s)
warehouse_row s = record { tax = omega arith; year_to_date = refl }

stock_row : IsSeededStock plain_stock
stock_row = record { quantity = (omega arith, omega arith); year_to_date = refl; orders = refl; remote_orders = refl }

district_row : (s : Sizes) → IsSeededDistrict s (plain_district s)
district_row s = record { tax = omega arith; year_to_date = refl; next_order = refl }

customer_row : (c : ℕ) → 1 ≤ c → IsSeededCustomer c (plain_customer c)
customer_row c from = record {
  first_name = omega arith;
  last_name = omega arith;
  own_name = λ few. omega (arith, few);
  discount = omega arith;
  balance = refl;
  paid = refl;
  payments = refl;
  deliveries = refl;
}

order_row : (s : Sizes) (o : ℕ) → IsNumber s.customers o → IsSeededOrder s o (plain_order s o)
order_row s o is = record {
  customer = is;
  entry_date = refl;
  delivered = null_unless (is_delivered s o);
  carrier = one_or_null _ (is_delivered s o) (omega arith, omega arith);
  line_count = (omega arith, omega arith);
  all_local = refl;
}

line_row : (s : Sizes) (w o n : ℕ) → IsNumber s.items n → n ≤ 5 → IsSeededLine s w o (plain_line s w o n)
line_row s w o n is few = record {
  item = is;
  supply_warehouse = refl;
  delivery_date = refl;
  quantity = refl;
  free = amount_free (is_delivered s o) (n * 100);
  at_least = amount_least (is_delivered s o) (n * 100);
  at_most = amount_most (is_delivered s o) (n * 100) (omega arith);
}

module _ (s : Sizes) (t : Database) (first : AreFirstTables Plain s t) where
  five : (k : LineKey) → IsPlainOrderKey s (order_of k) → first_line_count t.orders (order_of k) ≡ 5
  five k is =
      let row = first.orders.rows (order_of k) is in
      (λ i. option_map_or (λ (r : Order). r.line_count) (row.1 i) 0) ∙ ap (λ (r : Order). r.line_count) row.2

  pub are_seeded : IsFit s → IsSeeded s t
  are_seeded fit = record {
    scale = first.scale;
    keeps_texts = first.keeps_texts;
    warehouses = weaker first.warehouses _ (λ k r is e. subst (IsSeededWarehouse s) (sym e) (warehouse_row s));
    districts = weaker first.districts _ (λ k r is e. subst (IsSeededDistrict s) (sym e) (district_row s));
    customers = weaker first.customers _ (λ k r is e. subst (IsSeededCustomer k.customer) (sym e) (customer_row k.customer is.2.0));
    texts = first.texts;
    history = first.history;
    new_orders = first.new_orders;
    orders = weaker first.orders _ (λ k r is e. subst (IsSeededOrder s k.order) (sym e) (order_row s k.order is.2));
    lines = weaker first.lines _ (λ k r is e.
        subst (IsSeededLine s k.warehouse k.order) (sym e)
        (line_row s k.warehouse k.order k.line (is.1.0, omega (arith, is.1, five k is.0, fit.items)) (omega (arith, is.1, five k is.0))));
    items = weaker first.items _ (λ k r is e. subst IsSeededItem (sym e) (item_row k));
    stock = weaker first.stock _ (λ k r is e. subst IsSeededStock (sym e) stock_row);
  }

  pub are_plain : IsPlain s t
  are_plain = record {
    scale = first.scale;
    keeps_texts = first.keeps_texts;
    warehouses = is_table first.warehouses;
    districts = is_table first.districts;
    customers = is_table first.customers;
    texts = is_table first.texts;
    history = first.history;
    new_orders = is_table first.new_orders;
    orders = is_table first.orders;
    lines = record {
      rows = λ k is. (is_table first.lines).rows k ((is.0, is.1, is.2), (is.3.0, omega (arith, is.3, five k (is.0, is.1, is.2))));
      only = λ k some. let is = first.lines.only k some in (is.0.0, is.0.1, is.0.2, (is.1.0, omega (arith, is.1, five k is.0)));
    };
    items = is_table first.items;
    stock = is_table first.stock;
  }

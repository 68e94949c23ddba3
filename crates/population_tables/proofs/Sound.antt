-- A seeded population is well-formed, has room, and is in reach of no commit.
use Rattle.std.proofs.Common.{◌≡◌, ℕ, zero, suc, ◌+◌, ◌-◌, ◌*◌, ◌≤◌, IsSome, pos, neg_ℤ, ℤ, Some, List, map, sym, subst}
use Rattle.std.proofs.Common.{refl, arith}
use Rattle.std.specs.Prelude.{All}
use Rattle.std.specs.List.{flat_map}
use Rattle.std.specs.Option.{ForSome, option_map_or}
use Rattle.std.specs.FinMap.{get}
use Rattle.std.proofs.lemmas.Int.{ints}
use Rattle.std.proofs.lemmas.List.Elements.{All-nil, All-append, All-push}
use Rattle.std.proofs.lemmas.Nat.{mul-le}
use Rattle.customer_data.specs.Text.{IsData}
use Rattle.customer_data.proofs.Printable.{first_is}
use Rattle.tables.specs.Sizes.{Sizes, IsNumber}
use Rattle.tables.specs.Keys.{order_of}
use Rattle.tables.specs.Database.{Database}
use Rattle.tables.specs.Names.{names, customer_named}
use Rattle.tables.specs.declared.keys.CustomerKey.{CustomerKey}
use Rattle.tables.specs.declared.keys.LineKey.{LineKey}
use Rattle.tables.specs.declared.rows.Order.{Order}
use Rattle.tables.proofs.Named.{somebody}
use Rattle.tables.specs.WellFormed.{IsMoney, IsMoneyFor, IsDate, IsHistoryRow, IsWellFormed, HasRoom}
use Rattle.tables.specs.Reach.{IsNear, IsInReach}
use Rattle.tables.specs.declared.limits.TheConstants.{MAX_COMMITS, MAX_MONEY_STEP, MAX_FIRST_MONEY}
use Rattle.population_tables.specs.Plain.{numbers, plain_history_row}
use Rattle.population_tables.specs.First.{IsFit, IsSeeded, IsFirstLineKey, first_line_count}
use Rattle.population_tables.proofs.PlainRows.{one_or_null}
use Rattle.population_tables.proofs.Lists.{map_more, flat_map_more}
use Rattle.population_tables.proofs.TableRows.{found, at, within, each}

module _ {X : Type 0} (P : X → Type 0) where
  all_listed : (f : ℕ → X) (n : ℕ) → ((k : ℕ) → IsNumber n k → P (f k)) → All P (map f (numbers n))
  all_listed f zero holds = All-nil P
  all_listed f (suc n) holds =
      subst (All P) (sym (map_more f (numbers n) (suc n)))
      (All-push P _ _ (all_listed f n (λ k h. holds k (h.0, omega arith))) (holds (suc n) (omega arith, omega arith)))

  all_joined : (f : ℕ → List X) (n : ℕ) → ((k : ℕ) → IsNumber n k → All P (f k)) → All P (flat_map f (numbers n))
  all_joined f zero holds = All-nil P
  all_joined f (suc n) holds =
      subst (All P) (sym (flat_map_more f (numbers n) (suc n)))
      (All-append P _ _ (all_joined f n (λ k h. holds k (h.0, omega arith))) (holds (suc n) (omega arith, omega arith)))

-- an amount that is known, within its range, also for n more commits
money : (z : ℤ) (amount : ℕ) → z ≡ pos amount → amount ≤ 10000000000000 → IsMoney z
money z amount is fits = (omega (arith, ints), omega (arith, ints))

debt : (z : ℤ) → z ≡ neg_ℤ (pos 1000) → IsMoney z
debt z is = (omega (arith, ints), omega (arith, ints))

money_for : (n : ℕ) (z : ℤ) (amount : ℕ) → z ≡ pos amount → amount + MAX_MONEY_STEP * n ≤ 10000000000000 → IsMoneyFor n z
money_for n z amount is fits = (omega (arith, ints), omega (arith, ints))

debt_for : (n : ℕ) (z : ℤ) → z ≡ neg_ℤ (pos 1000) → 1000 + MAX_MONEY_STEP * n ≤ 10000000000000 → IsMoneyFor n z
debt_for n z is fits = (omega (arith, ints), omega (arith, ints))

near : (z : ℤ) (amount : ℕ) → z ≡ pos amount → amount ≤ MAX_FIRST_MONEY → IsNear MAX_FIRST_MONEY z
near z amount is fits = (omega (arith, ints), omega (arith, ints))

debt_near : (z : ℤ) → z ≡ neg_ℤ (pos 1000) → IsNear MAX_FIRST_MONEY z
debt_near z is = (omega (arith, ints), omega (arith, ints))

is_history_row : (s : Sizes) (w d c : ℕ) → IsNumber s.warehouses w → IsNumber s.districts d → IsNumber s.customers c → IsHistoryRow s (plain_history_row w d c)
is_history_row s w d c in_warehouse in_district in_customer = record {
  customer = in_customer;
  customer_district = in_district;
  customer_warehouse = in_warehouse;
  district = in_district;
  warehouse = in_warehouse;
  date = (omega arith, omega arith);
  at_least = omega (arith, ints);
  at_most = omega (arith, ints);
}

module _ (t : Database) (fit : IsFit t.scale) (seeded : IsSeeded t.scale t) where
  total : t.scale.districts * (t.scale.customers * 1000) ≤ 30000000
  total = mul-le t.scale.districts (t.scale.customers * 1000) 10 3000000 fit.districts (omega (arith, fit.customers))

  room : HasRoom MAX_COMMITS t
  room = record {
    warehouses = each seeded.warehouses _ (λ k r h d.
        money_for MAX_COMMITS _ (t.scale.districts * (t.scale.customers * 1000)) d.year_to_date (omega (arith, total)));
    districts = each seeded.districts _ (λ k r h d. money_for MAX_COMMITS _ (t.scale.customers * 1000) d.year_to_date (omega (arith, fit.customers)));
    balances = each seeded.customers _ (λ k r h d. debt_for MAX_COMMITS _ d.balance (omega arith));
    paid = each seeded.customers _ (λ k r h d. money_for MAX_COMMITS _ 1000 d.paid (omega arith));
    payments = each seeded.customers _ (λ k r h d. omega (arith, d.payments));
    deliveries = each seeded.customers _ (λ k r h d. omega (arith, d.deliveries));
    supplied = each seeded.stock _ (λ k r h d. omega (arith, d.year_to_date));
    orders = each seeded.stock _ (λ k r h d. omega (arith, d.orders));
    remote_orders = each seeded.stock _ (λ k r h d. omega (arith, d.remote_orders));
  }

  reach : IsInReach 0 t
  reach = record {
    warehouses = each seeded.warehouses _ (λ k r h d. near _ (t.scale.districts * (t.scale.customers * 1000)) d.year_to_date (omega (arith, total)));
    districts = each seeded.districts _ (λ k r h d. near _ (t.scale.customers * 1000) d.year_to_date (omega (arith, fit.customers)));
    customers = each seeded.customers _ (λ k r h d. record {
      balance = debt_near _ d.balance;
      paid = near _ 1000 d.paid (omega arith);
      payments = omega (arith, d.payments);
      deliveries = omega (arith, d.deliveries);
    });
    stock = each seeded.stock _ (λ k r h d. record {
      year_to_date = omega (arith, d.year_to_date);
      orders = omega (arith, d.orders);
      remote_orders = omega (arith, d.remote_orders);
    });
  }

  -- no order has more than 15 lines
  pub fifteen : (k : LineKey) → IsFirstLineKey t.scale t.orders k → k.line ≤ 15
  fifteen k h =
      let row = seeded.orders.rows (order_of k) h.0 in
      let count : first_line_count t.orders (order_of k) ≡ row.0.line_count = λ i. option_map_or (λ (r : Order). r.line_count) (row.1 i) 0 in
      omega (arith, h.1, count, row.2.line_count)

  -- a line's order is there, with at least as many lines
  order_there : (k : LineKey) → IsFirstLineKey t.scale t.orders k → (order : Order) × (get t.orders (order_of k) ≡ Some order) × (k.line ≤ order.line_count)
  order_there k h =
      let row = seeded.orders.rows (order_of k) h.0 in
      let count : first_line_count t.orders (order_of k) ≡ row.0.line_count = λ i. option_map_or (λ (r : Order). r.line_count) (row.1 i) 0 in
      (row.0, row.1, omega (arith, h.1, count))

  well_formed : IsWellFormed t
  well_formed = record {
    warehouses = at seeded.warehouses;
    districts = at seeded.districts;
    customers = at seeded.customers;
    texts = at seeded.texts;
    stock = at seeded.stock;
    new_orders = within seeded.new_orders _ (λ k h. (h.0, h.1, (omega (arith, h.2), omega (arith, h.2, fit.orders))));
    orders = within seeded.orders _ (λ k h. (h.0, h.1, (h.2.0, omega (arith, h.2, fit.orders))));
    lines = within seeded.lines _ (λ k h. (h.0.0, h.0.1, (h.0.2.0, omega (arith, h.0.2, fit.orders)), (h.1.0, fifteen k h)));
    items = within seeded.items _ (λ k h. h);
    warehouse_rows = each seeded.warehouses _ (λ k r h d. money _ (t.scale.districts * (t.scale.customers * 1000)) d.year_to_date (omega (arith, total)));
    district_rows = each seeded.districts _ (λ k r h d. record {
      year_to_date = money _ (t.scale.customers * 1000) d.year_to_date (omega (arith, fit.customers));
      next_order = (omega (arith, d.next_order), omega (arith, d.next_order, fit.orders));
    });
    customer_rows = each seeded.customers _ (λ k r h d. record {
      balance = debt _ d.balance;
      paid = money _ 1000 d.paid (omega arith);
      payments = omega (arith, d.payments);
      deliveries = omega (arith, d.deliveries);
    });
    text_rows = each seeded.texts _ (λ k text h d. subst IsData (sym d) first_is);
    history_rows = subst (All (IsHistoryRow t.scale)) (sym seeded.history)
        (all_joined (IsHistoryRow t.scale) _ t.scale.warehouses
        (λ w in_warehouse. all_joined (IsHistoryRow t.scale) _ t.scale.districts
        (λ d in_district. all_listed (IsHistoryRow t.scale) _ t.scale.customers
        (λ c in_customer. is_history_row t.scale w d c in_warehouse in_district in_customer))));
    order_rows = each seeded.orders _ (λ k r h d. record {
      entry_date = (omega (arith, d.entry_date), omega (arith, d.entry_date));
      carrier = d.carrier;
      line_count = d.line_count;
    });
    line_rows = each seeded.lines _ (λ k r h d. record {
      item = d.item;
      supply_warehouse = subst (IsNumber t.scale.warehouses) (sym d.supply_warehouse) h.0.0;
      delivery_date = subst (λ date. ForSome date (λ n. IsDate n)) (sym d.delivery_date) (one_or_null _ _ (omega arith, omega arith));
      quantity = (omega (arith, d.quantity), omega (arith, d.quantity));
      at_least = d.at_least;
      at_most = d.at_most;
    });
    item_rows = each seeded.items _ (λ i r h d. record { at_least = omega (arith, ints, d.at_least); at_most = d.at_most });
    stock_rows = each seeded.stock _ (λ k r h d. record {
      quantity = d.quantity;
      year_to_date = omega (arith, d.year_to_date);
      orders = omega (arith, d.orders);
      remote_orders = omega (arith, d.remote_orders);
    });
    order_customers = each seeded.orders _ (λ k r h d. found seeded.customers _ (h.0, h.1, d.customer));
    new_order_orders = λ k some. let h = seeded.new_orders.only k some in found seeded.orders k (h.0, h.1, (omega (arith, h.2), h.2.1));
    last_names = λ d is n below name.
        let k : CustomerKey = record { warehouse = d.warehouse; district = d.district; customer = n + 1 } in
        let row = seeded.customers.rows k (is.0, is.1, (omega arith, omega (arith, below))) in
        let own : row.0.last_name ≡ n + 1 - 1 = row.2.own_name (omega (arith, name)) in
        let same : row.0.last_name ≡ n = omega (arith, own) in
        subst (λ m. IsSome (customer_named (names t.customers) d m)) same (somebody t.customers k row.0 row.1);
    line_orders = λ k r is_row. order_there k (seeded.lines.only k (subst IsSome (sym is_row) refl));
  }

module _ (s : Sizes) (t : Database) (fit : IsFit s) (seeded : IsSeeded s t) where
  pub fit_here : IsFit t.scale
  fit_here = subst IsFit (sym seeded.scale) fit

  pub seeded_here : IsSeeded t.scale t
  seeded_here = subst (λ (x : Sizes). IsSeeded x t) (sym seeded.scale) seeded

  pub has_room : HasRoom MAX_COMMITS t
  has_room = room t fit_here seeded_here

  pub has_reach : IsInReach 0 t
  has_reach = reach t fit_here seeded_here

  pub is_well_formed : IsWellFormed t
  is_well_formed = well_formed t fit_here seeded_here

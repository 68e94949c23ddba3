-- A Delivery keeps tables well-formed, and takes up the room of one commit.
use Rattle.std.proofs.Common.{◌≡◌, ℕ, ◌+◌, ◌≤◌, ℤ, ◌+ℤ◌, ◌≤ℤ◌, Bool, true, false, cond, true≢false, Option, Some, None, IsSome, sym, ap, ◌∙◌, subst, arith}
use Rattle.std.proofs.lemmas.Int.{ints}
use Rattle.std.proofs.lemmas.Option.{same_Some}
use Rattle.std.specs.Option.{option_map}
use Rattle.std.specs.FinMap.{FinMap, get, get-retain_keys, retain_keys}
use Rattle.std.specs.declared.cmp.Ordering.{Ordering}
use Rattle.tables.specs.Sizes.{IsNumber}
use Rattle.tables.specs.Keys.{order_cmp, order_of, IsCustomerKey, IsOrderKey, IsLineKey}
use Rattle.tables.specs.Maps.{RowsWithin, EachRow}
use Rattle.tables.specs.Database.{Database}
use Rattle.tables.specs.Delivery.{IsDelivery, taken, is_taken, carried, dated, order_amount, is_order_of, credited, after_taken, after_delivery}
use Rattle.tables.specs.WellFormed.{IsWellFormed, HasRoomTo, IsDate, IsCustomerRow, IsOrderRow, IsLineRow, IsMoneyTo, IsCountTo, orderer}
use Rattle.money.specs.declared.cents.TheConstants.{MAX_MONEY}
use Rattle.tables.specs.declared.limits.TheConstants.{MAX_COUNT, MAX_CARRIER}
use Rattle.tables.specs.declared.keys.CustomerKey.{CustomerKey}
use Rattle.tables.specs.declared.keys.OrderKey.{OrderKey}
use Rattle.tables.specs.declared.keys.LineKey.{LineKey}
use Rattle.tables.specs.declared.rows.Customer.{Customer}
use Rattle.tables.specs.declared.rows.Order.{Order}
use Rattle.tables.specs.declared.rows.OrderLine.{OrderLine}
use Rattle.tables.specs.declared.delivery.DeliveryInput.{DeliveryInput}
use Rattle.tables.proofs.Orders.{IsExact, exact_customer, exact_order, exact_line}
use Rattle.tables_laws.proofs.DeliveryKeepsConstants.{kept_constants}
use Rattle.tables_laws.proofs.NamesKept.{IsOf-itself, last_names_stay}
use Rattle.tables_laws.proofs.OrderAmount.{order_amount-within}
use Rattle.tables_laws.proofs.Room.{money_stays, count_stays, is_money, is_count, room_stays}
use Rattle.tables_laws.proofs.Rows.{updated_rows, each_updated}
use Rattle.tables_laws.proofs.Updates.{get-map_rows, is_some-map_rows}

-- a line's number is at most its order's O_OL_CNT
abbrev IsWithinOrder : FinMap order_cmp Order → LineKey → Type 0
IsWithinOrder orders j = (order : Order) × (get orders (order_of j) ≡ Some order) × (j.line ≤ order.line_count)

module _ {K X : Type 0} {R : K → K → Ordering} (o : IsExact R) where
  -- a row that is retained was there
  was_there : (p : K → Bool) (m : FinMap R X) (q : K) → IsSome (get (retain_keys m p) q) → IsSome (get m q)
  was_there p m q some =
      elim (p q) as (λ b. IsSome (cond b (get m q) None) → IsSome (get m q)) [
        | true ↦ λ is. is
        | false ↦ λ none. absurd (true≢false (sym none))
      ] (subst IsSome (get-retain_keys m p q (λ j tie. ap p (sym (o.same q j tie)))) some)

module _ (t : Database) (x : DeliveryInput) where
  abbrev credits : CustomerKey → Customer → Customer
  credits c r = after_taken t c (taken t x (record { warehouse = c.warehouse; district = c.district })) r

  abbrev carries : OrderKey → Order → Order
  carries k r = cond (is_taken t x k) (carried x r) r

  abbrev dates : LineKey → OrderLine → OrderLine
  dates j r = cond (is_taken t x (order_of j)) (dated x r) r

  -- what holds of a customer's row that no order is credited to and of one that one order is
  each_customer : (P Q : Customer → Type 0) → EachRow (λ c r. P r) t.customers → ((r : Customer) → P r → Q r)
      → ((k : OrderKey) (r : Customer) → P r → Q (credited t k r))
      → EachRow (λ c r. Q r) (after_delivery t x).customers
  each_customer P Q each same credit = each_updated exact_customer (λ c r. P r) (λ c r. Q r) credits t.customers each
      (λ c r h. once c (taken t x (record { warehouse = c.warehouse; district = c.district })) r h)
    where
      once : (c : CustomerKey) (w : Option ℕ) (r : Customer) → P r → Q (after_taken t c w r)
      once c None r h = same r h
      once c (Some n) r h =
          let k : OrderKey = record { warehouse = c.warehouse; district = c.district; order = n } in
          elim (is_order_of t k c.customer) as (λ b. Q (cond b (credited t k r) r)) [ true ↦ credit k r h | false ↦ same r h ]

  module _ (most : ℤ) (top : ℕ) (low : most ≤ℤ MAX_MONEY) (few : top ≤ MAX_COUNT) (n : ℕ) (wf : IsWellFormed t)
      (room : HasRoomTo most top (n + 1) t) where
    -- an order's sum is at most what a commit may move
    rises : (k : OrderKey) (z : ℤ) → IsMoneyTo most (n + 1) z → IsMoneyTo most n (z +ℤ order_amount t k)
    rises k z h = let sum = order_amount-within t wf k in (omega (arith, ints, sum.0, sum.1, h.0, h.1), omega (arith, ints, sum.0, sum.1, h.0, h.1))

    counts : (c : ℕ) → IsCountTo top (n + 1) c → IsCountTo top n (c + 1)
    counts c h = omega (arith, h)

    pub kept_room : HasRoomTo most top n (after_delivery t x)
    kept_room = let stays = room_stays most top n t room in record {
      warehouses = stays.warehouses;
      districts = stays.districts;
      balances = each_customer (λ r. IsMoneyTo most (n + 1) r.balance) (λ r. IsMoneyTo most n r.balance) room.balances (λ r h. money_stays most n r.balance h)
          (λ k r h. rises k r.balance h);
      paid = each_customer (λ r. IsMoneyTo most n r.paid) (λ r. IsMoneyTo most n r.paid) stays.paid (λ r h. h) (λ k r h. h);
      payments = each_customer (λ r. IsCountTo top n r.payments) (λ r. IsCountTo top n r.payments) stays.payments (λ r h. h) (λ k r h. h);
      deliveries = each_customer (λ r. IsCountTo top (n + 1) r.deliveries) (λ r. IsCountTo top n r.deliveries) room.deliveries
          (λ r h. count_stays top n r.deliveries h) (λ k r h. counts r.deliveries h);
      supplied = stays.supplied;
      orders = stays.orders;
      remote_orders = stays.remote_orders;
    }

    module _ (ok : IsDelivery t.scale x) where
      customer_rows : EachRow (λ c r. IsCustomerRow r) (after_delivery t x).customers
      customer_rows = each_customer
          (λ r. IsCustomerRow r × IsMoneyTo most (n + 1) r.balance × IsCountTo top (n + 1) r.deliveries) IsCustomerRow
          (λ c r f. (wf.customer_rows c r f, room.balances c r f, room.deliveries c r f))
          (λ r h. h.0)
          (λ k r h. record {
            balance = is_money most n low _ (rises k r.balance h.1);
            paid = h.0.paid;
            payments = h.0.payments;
            deliveries = is_count top n few _ (counts r.deliveries h.2);
          })

      order_rows : EachRow (λ k r. IsOrderRow r) (after_delivery t x).orders
      order_rows = each_updated exact_order (λ k r. IsOrderRow r) (λ k r. IsOrderRow r) carries t.orders wf.order_rows
          (λ k r h. elim (is_taken t x k) as (λ b. IsOrderRow (cond b (carried x r) r)) [
            | true ↦ record {
              entry_date = h.entry_date;
              carrier = λ c is. subst (IsNumber MAX_CARRIER) (same_Some _ _ is) ok.carrier;
              line_count =
                  h.line_count;
            }
            | false ↦ h
          ])

      line_rows : EachRow (λ j r. IsLineRow t.scale r) (after_delivery t x).lines
      line_rows = each_updated exact_line (λ j r. IsLineRow t.scale r) (λ j r. IsLineRow t.scale r) dates t.lines wf.line_rows
          (λ j r h. elim (is_taken t x (order_of j)) as (λ b. IsLineRow t.scale (cond b (dated x r) r)) [
            | true ↦ record {
              item = h.item;
              supply_warehouse = h.supply_warehouse;
              delivery_date = λ d is. subst IsDate (same_Some _ _ is) ok.date;
              quantity = h.quantity;
              at_least = h.at_least;
              at_most = h.at_most;
            }
            | false ↦ h
          ])

      -- the customer of an order is there still
      order_customers : EachRow (λ k r. IsSome (get (after_delivery t x).customers (orderer k r))) (after_delivery t x).orders
      order_customers = each_updated exact_order (λ k r. IsSome (get t.customers (orderer k r)))
          (λ k r. IsSome (get (after_delivery t x).customers (orderer k r))) carries t.orders wf.order_customers
          (λ k r h. elim (is_taken t x k) as (λ b. IsSome (get (after_delivery t x).customers (orderer k (cond b (carried x r) r)))) [
            | true ↦ still (orderer k r) h
            | false ↦ still (orderer k r) h
          ])
        where
          still : (c : CustomerKey) → IsSome (get t.customers c) → IsSome (get (after_delivery t x).customers c)
          still c some = subst (λ b. b ≡ true) (sym (is_some-map_rows exact_customer credits t.customers c)) some

      -- and so is the order of a line, with the same count of lines
      line_orders : EachRow (λ j r. IsWithinOrder (after_delivery t x).orders j) (after_delivery t x).lines
      line_orders = each_updated exact_line (λ j r. IsWithinOrder t.orders j) (λ j r. IsWithinOrder (after_delivery t x).orders j) dates t.lines wf.line_orders
          (λ j r h. (
            carries (order_of j) h.0,
            get-map_rows exact_order carries t.orders (order_of j) ∙ ap (option_map (carries (order_of j))) h.1,
            elim (is_taken t x (order_of j)) as (λ b. j.line ≤ (cond b (carried x h.0) h.0).line_count) [ true ↦ h.2 | false ↦ h.2 ],
          ))

      new_order_orders : (k : OrderKey) → IsSome (get (after_delivery t x).new_orders k) → IsSome (get (after_delivery t x).orders k)
      new_order_orders k some = subst (λ b. b ≡ true) (sym (is_some-map_rows exact_order carries t.orders k))
          (wf.new_order_orders k (was_there exact_order _ t.new_orders k some))

      order_keys : RowsWithin (IsOrderKey t.scale) (after_delivery t x).orders
      order_keys k some = wf.orders k (subst (λ b. b ≡ true) (is_some-map_rows exact_order carries t.orders k) some)

      line_keys : RowsWithin (IsLineKey t.scale) (after_delivery t x).lines
      line_keys j some = wf.lines j (subst (λ b. b ≡ true) (is_some-map_rows exact_line dates t.lines j) some)

      pub kept_well_formed : IsWellFormed (after_delivery t x)
      kept_well_formed = record {
        warehouses = wf.warehouses;
        districts = wf.districts;
        customers = updated_rows exact_customer (IsCustomerKey t.scale) credits t.customers wf.customers;
        texts = wf.texts;
        stock = wf.stock;
        new_orders = λ k some. wf.new_orders k (was_there exact_order _ t.new_orders k some);
        orders = order_keys;
        lines = line_keys;
        items = wf.items;
        warehouse_rows = wf.warehouse_rows;
        district_rows = wf.district_rows;
        customer_rows = customer_rows;
        text_rows = wf.text_rows;
        history_rows = wf.history_rows;
        order_rows = order_rows;
        line_rows = line_rows;
        item_rows = wf.item_rows;
        stock_rows = wf.stock_rows;
        order_customers = order_customers;
        new_order_orders = new_order_orders;
        line_orders = line_orders;
        last_names = last_names_stay t (after_delivery t x) (kept_constants t x t (IsOf-itself t)) wf.last_names;
      }

module _ (most : ℤ) (top : ℕ) (low : most ≤ℤ MAX_MONEY) (few : top ≤ MAX_COUNT)
    (t : Database) (x : DeliveryInput) (n : ℕ) (ok : IsDelivery t.scale x) (wf : IsWellFormed t) (room : HasRoomTo most top (n + 1) t) where
  pub delivery_keeps_room : HasRoomTo most top n (after_delivery t x)
  delivery_keeps_room = kept_room t x most top low few n wf room

  pub delivery_keeps_well_formed : IsWellFormed (after_delivery t x)
  delivery_keeps_well_formed = kept_well_formed t x most top low few n wf room ok

-- A New-Order keeps tables well-formed, and takes up the room of one commit.
use Rattle.std.proofs.Common.{◌≡◌, ℕ, ◌+◌, ◌*◌, ◌≤◌, ℤ, pos, ◌*ℤ◌, ◌≤ℤ◌, true, false, cond, Option, Some, None, IsSome, is_some, List, [], ◌∷◌, length, All}
use Rattle.std.proofs.Common.{refl, sym, ap, ◌∙◌, subst, arith}
use Rattle.std.proofs.lemmas.Int.{ints}
use Rattle.std.proofs.lemmas.List.Elements.{All-nil, All-cons, All-head, All-tail}
use Rattle.std.specs.FinMap.{get}
use Rattle.std.specs.Option.{option_map_or}
use Rattle.tables.specs.Sizes.{IsNumber}
use Rattle.tables.specs.Keys.{is_district, order_of, IsDistrictKey, IsOrderKey, IsLineKey}
use Rattle.tables.specs.Maps.{EachRow}
use Rattle.tables.specs.OrderNumbers.{next_order}
use Rattle.tables.specs.Database.{Database}
use Rattle.tables.specs.NewOrder.{IsNewOrder, IsRequestedLine, HasNumber, first_missing, home, buyer, new_key, numbered_district, order_row, line_amount}
use Rattle.tables.specs.NewOrder.{line_key, line_row, after_new_order}
use Rattle.tables.specs.Conditions.{IsConsistent}
use Rattle.tables.specs.WellFormed.{IsWellFormed, HasRoomTo, IsDistrictRow, IsOrderRow, IsLineRow, IsStockRow, IsMoneyTo, IsCountTo, orderer}
use Rattle.money.specs.declared.cents.TheConstants.{MAX_MONEY}
use Rattle.tables.specs.declared.limits.TheConstants.{MAX_COUNT, MAX_LINE_AMOUNT, MAX_QUANTITY}
use Rattle.tables.specs.declared.keys.DistrictKey.{DistrictKey}
use Rattle.tables.specs.declared.keys.LineKey.{LineKey}
use Rattle.tables.specs.declared.rows.District.{District}
use Rattle.tables.specs.declared.rows.Order.{Order}
use Rattle.tables.specs.declared.rows.OrderLine.{OrderLine}
use Rattle.tables.specs.declared.rows.Item.{Item}
use Rattle.tables.specs.declared.new_order.RequestedLine.{RequestedLine}
use Rattle.tables.specs.declared.new_order.NewOrderInput.{NewOrderInput}
use Rattle.tables.proofs.Orders.{exact_district, exact_order}
use Rattle.tables.proofs.KeyTests.{is_district-key}
use Rattle.tables.proofs.Entries.{tied}
use Rattle.tables_laws.proofs.Room.{money_stays, is_count, room_stays}
use Rattle.tables_laws.proofs.Rows.{there, updated_rows, each_updated, each_inserted, get-inserted, within_each, within_inserted, still_there}
use Rattle.tables_laws.proofs.LineAmount.{amount_in_range}
use Rattle.tables_laws.proofs.NewKey.{order_stays}
use Rattle.tables_laws.proofs.NewLines.{each-with_lines}
use Rattle.tables_laws.proofs.Draws.{IsDrawable, draws_rows, draws_range}

-- a line whose item is in ITEM
abbrev IsSuppliable : Database → RequestedLine → Type 0
IsSuppliable t l = IsRequestedLine t.scale l × IsSome (get t.items l.item)

-- lines of which no item is missing
none_missing : (t : Database) (ls : List RequestedLine) → first_missing t ls ≡ None → All (IsRequestedLine t.scale) ls → All (IsSuppliable t) ls
none_missing t [] none ok = All-nil (IsSuppliable t)
none_missing t (l ∷ ls) none ok =
    elim (is_some (get t.items l.item)) as (λ b. is_some (get t.items l.item) ≡ b → cond b (first_missing t ls) (Some l.item) ≡ None
    → All (IsSuppliable t) (l ∷ ls)) [
      | true ↦ λ e n. All-cons (IsSuppliable t) l ls (All-head (IsRequestedLine t.scale) l ls ok, e)
          (none_missing t ls n (All-tail (IsRequestedLine t.scale) l ls ok))
      | false ↦ λ e n. cc
    ] refl none

module _ (most : ℤ) (top : ℕ) (low : most ≤ℤ MAX_MONEY) (few : top ≤ MAX_COUNT)
    (t : Database) (x : NewOrderInput) (n : ℕ) (ok : IsNewOrder t.scale x) (room : HasRoomTo most top (n + 1) t) (wf : IsWellFormed t) where
  stock_before : EachRow (λ k r. IsDrawable top n (length x.lines) r) t.stock
  stock_before k r f = record {
    quantity = (wf.stock_rows k r f).quantity;
    year_to_date = omega (arith, ok.line_count.1, room.supplied k r f);
    orders = omega (arith, ok.line_count.1, room.orders k r f);
    remote_orders = omega (arith, ok.line_count.1, room.remote_orders k r f);
  }

  stock_after : EachRow (λ k r. IsDrawable top n 0 r) (after_new_order t x).stock
  stock_after = draws_range t.scale x.warehouse top n x.lines t.stock ok.lines stock_before

  count_left : (c : ℕ) → IsCountTo top n (c + MAX_QUANTITY * 0) → IsCountTo top n c
  count_left c h = omega (arith, h)

  pub new_order_keeps_room : HasRoomTo most top n (after_new_order t x)
  new_order_keeps_room = let stays = room_stays most top n t room in record {
    warehouses = stays.warehouses;
    districts = each_updated exact_district (λ k r. IsMoneyTo most (n + 1) r.year_to_date) (λ k r. IsMoneyTo most n r.year_to_date)
        (λ k r. cond (is_district x.warehouse x.district k) (numbered_district r) r) t.districts room.districts
        (λ k r h. elim (is_district x.warehouse x.district k) as (λ b. IsMoneyTo most n (cond b (numbered_district r) r).year_to_date)
        [ true ↦ money_stays most n r.year_to_date h | false ↦ money_stays most n r.year_to_date h ]);
    balances = stays.balances;
    paid = stays.paid;
    payments = stays.payments;
    deliveries = stays.deliveries;
    supplied = λ k r f. count_left r.year_to_date (stock_after k r f).year_to_date;
    orders = λ k r f. count_left r.orders (stock_after k r f).orders;
    remote_orders = λ k r f. count_left r.remote_orders (stock_after k r f).remote_orders;
  }

  stock_rows : EachRow (λ k r. IsStockRow r) (after_new_order t x).stock
  stock_rows k r f = let h = stock_after k r f in record {
    quantity = h.quantity;
    year_to_date = is_count top n few r.year_to_date (count_left r.year_to_date h.year_to_date);
    orders = is_count top n few r.orders (count_left r.orders h.orders);
    remote_orders = is_count top n few r.remote_orders (count_left r.remote_orders h.remote_orders);
  }

  module _ (number : HasNumber t x) (con : IsConsistent t) (all_there : first_missing t x.lines ≡ None) where
    district_is : (k : DistrictKey) (r : District) → get t.districts k ≡ Some r → is_district x.warehouse x.district k ≡ true
        → r.next_order ≡ next_order t (home x)
    district_is k r f e = ap (λ (w : Option District). option_map_or (λ d. d.next_order) w 0)
        (sym f ∙ ap (get t.districts) (sym (exact_district.same (home x) k (tied _ (sym (is_district-key x.warehouse x.district k) ∙ e)))))

    number_is : IsNumber t.scale.orders (next_order t (home x))
    number_is =
        let district = there (IsDistrictKey t.scale) t.districts wf.districts (home x) (ok.warehouse, ok.district) in
        let is : next_order t (home x) ≡ district.0.next_order = ap (λ (w : Option District). option_map_or (λ d. d.next_order) w 0) district.1 in
        let low = (wf.district_rows (home x) district.0 district.1).next_order.0 in
        (omega arith, number)

    district_rows : EachRow (λ k r. IsDistrictRow t.scale r) (after_new_order t x).districts
    district_rows = each_updated exact_district (λ k r. IsDistrictRow t.scale r × (get t.districts k ≡ Some r)) (λ k r. IsDistrictRow t.scale r)
        (λ k r. cond (is_district x.warehouse x.district k) (numbered_district r) r) t.districts
        (λ k r f. (wf.district_rows k r f, f))
        (λ k r h. elim (is_district x.warehouse x.district k) as
        (λ b. is_district x.warehouse x.district k ≡ b → IsDistrictRow t.scale (cond b (numbered_district r) r)) [
          | true ↦ λ e. let is : r.next_order ≡ next_order t (home x) = district_is k r h.1 e in
              record { year_to_date = h.0.year_to_date; next_order = (omega arith, omega (arith, number)) }
          | false ↦ λ e. h.0
        ] refl)

    new_lines : (P : LineKey → OrderLine → Type 0) → EachRow P t.lines
        → ((i : ℕ) (l : RequestedLine) → 1 ≤ i → i ≤ length x.lines → IsSuppliable t l → P (line_key (new_key t x) i) (line_row t l))
        → EachRow P (after_new_order t x).lines
    new_lines P old new = each-with_lines t (new_key t x) P (IsSuppliable t) 1 x.lines t.lines old (none_missing t x.lines all_there ok.lines)
        (λ i l low high s. new i l low (omega arith) s)

    line_row_is : (l : RequestedLine) → IsSuppliable t l → IsLineRow t.scale (line_row t l)
    line_row_is l s =
        let item = there (λ i. IsSome (get t.items i)) t.items (λ i. ((λ is. is), (λ is. is))) l.item s.1 in
        let r = item.0 in
        let row = wf.item_rows l.item r item.1 in
        let is : line_amount t l ≡ pos l.quantity *ℤ r.price = ap (λ (w : Option Item). pos l.quantity *ℤ option_map_or (λ i. i.price) w (pos 0)) item.1 in
        let cheap : (z : ℤ) → z ≤ℤ pos 100000 → z ≤ℤ MAX_LINE_AMOUNT = λ z h. omega (arith, ints) in
        let fits = amount_in_range l.quantity r.price s.0.quantity.1 row.at_least row.at_most in
        record {
          item = wf.items l.item s.1;
          supply_warehouse = s.0.supply_warehouse;
          delivery_date = λ d e. cc;
          quantity = s.0.quantity;
          at_least = subst (λ a. pos 0 ≤ℤ a) (sym is) fits.0;
          at_most = subst (λ a. a ≤ℤ MAX_LINE_AMOUNT) (sym is) (cheap _ fits.1);
        }

    pub new_order_keeps_well_formed : IsWellFormed (after_new_order t x)
    new_order_keeps_well_formed = record {
      warehouses = wf.warehouses;
      districts = updated_rows exact_district (IsDistrictKey t.scale) (λ k r. cond (is_district x.warehouse x.district k) (numbered_district r) r) t.districts
          wf.districts;
      customers = wf.customers;
      texts = wf.texts;
      stock = draws_rows t.scale x.warehouse x.lines t.stock wf.stock;
      new_orders = within_inserted exact_order (IsOrderKey t.scale) t.new_orders (new_key t x) (record {}) wf.new_orders (ok.warehouse, ok.district, number_is);
      orders = within_inserted exact_order (IsOrderKey t.scale) t.orders (new_key t x) (order_row x) wf.orders (ok.warehouse, ok.district, number_is);
      lines = within_each (IsLineKey t.scale) (after_new_order t x).lines
          (new_lines (λ k r. IsLineKey t.scale k) (λ k r f. wf.lines k (ap is_some f))
          (λ i l low high s. (ok.warehouse, ok.district, number_is, (low, omega (arith, high, ok.line_count.1)))));
      items = wf.items;
      warehouse_rows = wf.warehouse_rows;
      district_rows = district_rows;
      customer_rows = wf.customer_rows;
      text_rows = wf.text_rows;
      history_rows = wf.history_rows;
      order_rows = each_inserted exact_order (λ k r. IsOrderRow r) t.orders (new_key t x) (order_row x) wf.order_rows
          (record { entry_date = ok.date; carrier = λ c e. cc; line_count = ok.line_count });
      line_rows = new_lines (λ k r. IsLineRow t.scale r) wf.line_rows (λ i l low high s. line_row_is l s);
      item_rows = wf.item_rows;
      stock_rows = stock_rows;
      order_customers = each_inserted exact_order (λ k r. IsSome (get t.customers (orderer k r))) t.orders (new_key t x) (order_row x) wf.order_customers
          ((wf.customers (buyer x)).1 (ok.warehouse, ok.district, ok.customer));
      new_order_orders = within_inserted exact_order (λ k. IsSome (get (after_new_order t x).orders k)) t.new_orders (new_key t x) (record {})
          (λ k some. still_there exact_order t.orders (new_key t x) (order_row x) k (wf.new_order_orders k some))
          (ap is_some (get-inserted exact_order t.orders (new_key t x) (order_row x)));
      line_orders = new_lines (λ k r. (order : Order) × (get (after_new_order t x).orders (order_of k) ≡ Some order) × (k.line ≤ order.line_count))
          (λ k r f. let was = wf.line_orders k r f in (was.0, order_stays t x wf (con.condition_2 (home x) (ok.warehouse, ok.district)) k r f ∙ was.1, was.2))
          (λ i l low high s. (order_row x, get-inserted exact_order t.orders (new_key t x) (order_row x), high));
      last_names = wf.last_names;
    }

-- A Payment keeps tables well-formed and consistent.
use Rattle.std.proofs.Common.{◌≡◌, ℕ, ◌+◌, ◌≤◌, ℤ, pos, ◌+ℤ◌, ◌-ℤ◌, ◌≤ℤ◌, Bool, true, false, cond, ◌==◌, List, Option, refl, sym, ap, ◌∙◌, subst, arith}
use Rattle.std.proofs.lemmas.Int.{ints}
use Rattle.std.proofs.lemmas.List.Sums.{fold_push}
use Rattle.std.proofs.lemmas.List.Elements.{All-push}
use Rattle.std.specs.Option.{option_map, option_map_or}
use Rattle.customer_data.specs.Text.{IsData, put_left}
use Rattle.customer_data.specs.Payments.{payment_text}
use Rattle.customer_data.proofs.Printable.{kept}
use Rattle.tables.specs.Sizes.{IsNumber}
use Rattle.tables.specs.Keys.{is_district, is_customer, IsWarehouseKey, IsDistrictKey, IsCustomerKey}
use Rattle.tables.specs.Maps.{total, EachRow}
use Rattle.tables.specs.OrderNumbers.{next_order}
use Rattle.tables.specs.Database.{Database}
use Rattle.tables.specs.Payment.{IsPayment, raised_warehouse, raised_district, charged_customer, after_payment_of, history_row, front_of, changes_text}
use Rattle.tables.specs.Constant.{IsOf}
use Rattle.tables.specs.Conditions.{IsConsistent, Condition1At, Condition2At, Condition8At, Condition9At, Condition10At, Condition12At, paid_at_warehouse}
use Rattle.tables.specs.Conditions.{paid_at_district, paid_by_customer, delivered_amount}
use Rattle.tables.specs.WellFormed.{IsWellFormed, HasRoomTo, IsMoneyTo, IsCountTo, IsDistrictRow, IsCustomerRow, IsHistoryRow, orderer}
use Rattle.money.specs.declared.cents.TheConstants.{MAX_MONEY}
use Rattle.tables.specs.declared.limits.TheConstants.{MAX_COUNT}
use Rattle.tables.specs.declared.keys.DistrictKey.{DistrictKey}
use Rattle.tables.specs.declared.keys.CustomerKey.{CustomerKey}
use Rattle.tables.specs.declared.rows.Warehouse.{Warehouse}
use Rattle.tables.specs.declared.rows.District.{District}
use Rattle.tables.specs.declared.rows.Customer.{Customer}
use Rattle.tables.specs.declared.rows.History.{History}
use Rattle.tables.specs.declared.payment.PaymentInput.{PaymentInput}
use Rattle.tables.proofs.Orders.{exact_number, exact_district, exact_customer}
use Rattle.tables.proofs.KeyTests.{is_district-key}
use Rattle.tables_laws.proofs.Updates.{column-update_where, total-update_where, kept-update_where, is_some-map_rows}
use Rattle.tables_laws.proofs.NamesKept.{IsOf-itself, last_names_stay}
use Rattle.tables_laws.proofs.Room.{money_stays, count_stays, is_money, is_count}
use Rattle.tables_laws.proofs.Rows.{there, updated_rows, each_updated}

module _ (t : Database) (x : PaymentInput) (c : ℕ) (ok : IsPayment t.scale x) (wf : IsWellFormed t) (con : IsConsistent t) where
  abbrev in_district : ℕ → DistrictKey → District → ℤ
  in_district w k r = cond (k.warehouse == w) r.year_to_date (pos 0)

  condition_1 : (w : ℕ) → IsWarehouseKey t.scale w → Condition1At (after_payment_of t x c) w
  condition_1 w is =
      let key : DistrictKey = record { warehouse = x.warehouse; district = x.district } in
      let warehouse = there (IsWarehouseKey t.scale) t.warehouses wf.warehouses w is in
      let district = there (IsDistrictKey t.scale) t.districts wf.districts key (ok.warehouse, ok.district) in
      let r = warehouse.0 in
      let d = district.0 in
      let was : r.year_to_date ≡ total (in_district w) t.districts = ap (λ (o : Option Warehouse). option_map_or (λ q. q.year_to_date) o (pos 0))
      (sym warehouse.1) ∙ con.condition_1 w is in
      column-update_where exact_number (λ q. q.year_to_date) (λ v. x.warehouse == v) (raised_warehouse x.amount) t.warehouses w r warehouse.1
      ∙ (elim (x.warehouse == w) as
      (λ b. (cond b (raised_warehouse x.amount r) r).year_to_date ≡ total (in_district w)
      t.districts +ℤ (cond b (d.year_to_date +ℤ x.amount) (pos 0) -ℤ cond b d.year_to_date (pos 0))) [
        | true ↦ omega (arith, ints)
        | false ↦ omega (arith, ints)
      ])
      ∙ sym (total-update_where exact_district (in_district w) (is_district x.warehouse x.district) (raised_district x.amount) key d t.districts
      (is_district-key x.warehouse x.district) district.1)

  -- the order that comes next
  next_stays : (k : DistrictKey) → next_order t k ≡ next_order (after_payment_of t x c) k
  next_stays k = sym (kept-update_where exact_district (is_district x.warehouse x.district) (raised_district x.amount)
      (λ o. option_map_or (λ r. r.next_order) o 0) t.districts k (λ _ r. refl))

  condition_2 : (k : DistrictKey) → IsDistrictKey t.scale k → Condition2At (after_payment_of t x c) k
  condition_2 k is =
      let was = con.condition_2 k is in
      (was.0 ∙ next_stays k, (λ first some. was.1 first some ∙ next_stays k))

  condition_8 : (w : ℕ) → IsWarehouseKey t.scale w → Condition8At (after_payment_of t x c) w
  condition_8 w is =
      let warehouse = there (IsWarehouseKey t.scale) t.warehouses wf.warehouses w is in
      let r = warehouse.0 in
      let was : r.year_to_date ≡ paid_at_warehouse t w = ap (λ (o : Option Warehouse). option_map_or (λ q. q.year_to_date) o (pos 0)) (sym warehouse.1)
      ∙ con.condition_8 w is in
      column-update_where exact_number (λ q. q.year_to_date) (λ v. x.warehouse == v) (raised_warehouse x.amount) t.warehouses w r warehouse.1
      ∙ (elim (x.warehouse == w) as (λ b. (cond b (raised_warehouse x.amount r) r).year_to_date ≡ paid_at_warehouse t w +ℤ cond b x.amount (pos 0)) [
        | true ↦ omega (arith, ints)
        | false ↦ omega (arith, ints)
      ])
      ∙ sym (fold_push (λ (a : ℤ) (h : History). a +ℤ cond (h.warehouse == w) h.amount (pos 0)) (pos 0) t.history (history_row x c))

  condition_9 : (k : DistrictKey) → IsDistrictKey t.scale k → Condition9At (after_payment_of t x c) k
  condition_9 k is =
      let district = there (IsDistrictKey t.scale) t.districts wf.districts k is in
      let r = district.0 in
      let was : r.year_to_date ≡ paid_at_district t k = ap (λ (o : Option District). option_map_or (λ q. q.year_to_date) o (pos 0)) (sym district.1)
      ∙ con.condition_9 k is in
      column-update_where exact_district (λ q. q.year_to_date) (is_district x.warehouse x.district) (raised_district x.amount) t.districts k r district.1
      ∙ (elim (is_district x.warehouse x.district k) as
      (λ b. (cond b (raised_district x.amount r) r).year_to_date ≡ paid_at_district t k +ℤ cond b x.amount (pos 0)) [
        | true ↦ omega (arith, ints)
        | false ↦ omega (arith, ints)
      ])
      ∙ sym (fold_push (λ (a : ℤ) (h : History). a +ℤ cond (is_district h.warehouse h.district k) h.amount (pos 0)) (pos 0) t.history (history_row x c))

  abbrev is_payer : CustomerKey → Bool
  is_payer k = is_customer x.customer_warehouse x.customer_district c k

  condition_10 : (k : CustomerKey) → IsCustomerKey t.scale k → Condition10At (after_payment_of t x c) k
  condition_10 k is =
      let customer = there (IsCustomerKey t.scale) t.customers wf.customers k is in
      let r = customer.0 in
      let was : r.balance ≡ delivered_amount t k -ℤ paid_by_customer t k = ap (λ (o : Option Customer). option_map_or (λ q. q.balance) o (pos 0))
      (sym customer.1) ∙ con.condition_10 k is in
      column-update_where exact_customer (λ q. q.balance) is_payer (charged_customer x.amount) t.customers k r customer.1
      ∙ (elim (is_payer k) as (λ b. (cond b (charged_customer x.amount r) r).balance ≡ delivered_amount t k -ℤ
      (paid_by_customer t k +ℤ cond b x.amount (pos 0))) [
        | true ↦ omega (arith, ints)
        | false ↦ omega (arith, ints)
      ])
      ∙ ap (λ h. delivered_amount t k -ℤ h)
      (sym (fold_push (λ (a : ℤ) (h : History). a +ℤ cond (is_customer h.customer_warehouse h.customer_district h.customer k) h.amount (pos 0))
      (pos 0) t.history (history_row x c)))

  condition_12 : (k : CustomerKey) → IsCustomerKey t.scale k → Condition12At (after_payment_of t x c) k
  condition_12 k is =
      let customer = there (IsCustomerKey t.scale) t.customers wf.customers k is in
      let r = customer.0 in
      let was : r.balance +ℤ r.paid ≡ delivered_amount t k =
      ap (λ (o : Option Customer). option_map_or (λ q. q.balance) o (pos 0) +ℤ option_map_or (λ q. q.paid) o (pos 0)) (sym customer.1)
      ∙ con.condition_12 k is in
      (λ i. column-update_where exact_customer (λ q. q.balance) is_payer (charged_customer x.amount) t.customers k r customer.1 i +ℤ column-update_where
      exact_customer (λ q. q.paid) is_payer (charged_customer x.amount) t.customers k r customer.1 i)
      ∙ (elim (is_payer k) as (λ b. (cond b (charged_customer x.amount r) r).balance +ℤ (cond b (charged_customer x.amount r) r).paid ≡ delivered_amount t k) [
        | true ↦ omega (arith, ints)
        | false ↦ omega (arith, ints)
      ])

  pub payment_keeps_consistent : IsConsistent (after_payment_of t x c)
  payment_keeps_consistent = record {
    condition_1 = condition_1;
    condition_2 = condition_2;
    condition_3 = con.condition_3;
    condition_4 = con.condition_4;
    condition_5 = con.condition_5;
    condition_6 = con.condition_6;
    condition_7 = con.condition_7;
    condition_8 = condition_8;
    condition_9 = condition_9;
    condition_10 = condition_10;
    condition_12 = condition_12;
  }

-- ---- the columns that never change
pub payment_keeps_constants : (t0 t : Database) (x : PaymentInput) (c : ℕ) → IsOf t0 t → IsOf t0 (after_payment_of t x c)
payment_keeps_constants t0 t x c h = record {
  scale = h.scale;
  keeps = h.keeps;
  warehouse_taxes = λ w. kept-update_where exact_number (λ k. x.warehouse == k) (raised_warehouse x.amount) (option_map (λ r. r.tax)) t.warehouses w
      (λ _ r. refl) ∙ h.warehouse_taxes w;
  district_taxes = λ k. kept-update_where exact_district (is_district x.warehouse x.district) (raised_district x.amount) (option_map (λ r. r.tax)) t.districts k
      (λ _ r. refl) ∙ h.district_taxes k;
  first_names = λ k. kept-update_where exact_customer (is_customer x.customer_warehouse x.customer_district c) (charged_customer x.amount)
      (option_map (λ r. r.first_name)) t.customers k (λ _ r. refl) ∙ h.first_names k;
  last_names = λ k. kept-update_where exact_customer (is_customer x.customer_warehouse x.customer_district c) (charged_customer x.amount)
      (option_map (λ r. r.last_name)) t.customers k (λ _ r. refl) ∙ h.last_names k;
  credit = λ k. kept-update_where exact_customer (is_customer x.customer_warehouse x.customer_district c) (charged_customer x.amount)
      (option_map (λ r. r.credit)) t.customers k (λ _ r. refl) ∙ h.credit k;
  discounts = λ k. kept-update_where exact_customer (is_customer x.customer_warehouse x.customer_district c) (charged_customer x.amount)
      (option_map (λ r. r.discount)) t.customers k (λ _ r. refl) ∙ h.discounts k;
  items = h.items;
}

-- ---- well-formed
module _ (most : ℤ) (top : ℕ) (low : most ≤ℤ MAX_MONEY) (few : top ≤ MAX_COUNT)
    (t : Database) (x : PaymentInput) (c n : ℕ) (ok : IsPayment t.scale x) (is_customer_number : IsNumber t.scale.customers c) (wf : IsWellFormed t)
    (room : HasRoomTo most top (n + 1) t) where
  rises : (z : ℤ) → IsMoneyTo most (n + 1) z → IsMoneyTo most n (z +ℤ x.amount)
  rises z h = (omega (arith, ints, ok.at_least, ok.at_most, h.0, h.1), omega (arith, ints, ok.at_least, ok.at_most, h.0, h.1))

  falls : (z : ℤ) → IsMoneyTo most (n + 1) z → IsMoneyTo most n (z -ℤ x.amount)
  falls z h = (omega (arith, ints, ok.at_least, ok.at_most, h.0, h.1), omega (arith, ints, ok.at_least, ok.at_most, h.0, h.1))

  counts : (c : ℕ) → IsCountTo top (n + 1) c → IsCountTo top n (c + 1)
  counts c h = omega (arith, h)

  warehouse_room : EachRow (λ k r. IsMoneyTo most n r.year_to_date) (after_payment_of t x c).warehouses
  warehouse_room = each_updated exact_number (λ k r. IsMoneyTo most (n + 1) r.year_to_date) (λ k r. IsMoneyTo most n r.year_to_date)
      (λ w r. cond (x.warehouse == w) (raised_warehouse x.amount r) r) t.warehouses room.warehouses
      (λ w r h. elim (x.warehouse == w) as (λ b. IsMoneyTo most n (cond b (raised_warehouse x.amount r) r).year_to_date)
      [ true ↦ rises r.year_to_date h | false ↦ money_stays most n r.year_to_date h ])

  district_room : EachRow (λ k r. IsMoneyTo most n r.year_to_date) (after_payment_of t x c).districts
  district_room = each_updated exact_district (λ k r. IsMoneyTo most (n + 1) r.year_to_date) (λ k r. IsMoneyTo most n r.year_to_date)
      (λ k r. cond (is_district x.warehouse x.district k) (raised_district x.amount r) r) t.districts room.districts
      (λ k r h. elim (is_district x.warehouse x.district k) as (λ b. IsMoneyTo most n (cond b (raised_district x.amount r) r).year_to_date)
      [ true ↦ rises r.year_to_date h | false ↦ money_stays most n r.year_to_date h ])

  abbrev pays : CustomerKey → Customer → Customer
  pays k r = cond (is_customer x.customer_warehouse x.customer_district c k) (charged_customer x.amount r) r

  -- what holds of a customer's row that didn't pay and of one that did
  each_customer : (P Q : Customer → Type 0) → EachRow (λ k r. P r) t.customers → ((r : Customer) → P r → Q r)
      → ((r : Customer) → P r → Q (charged_customer x.amount r)) → EachRow (λ k r. Q r) (after_payment_of t x c).customers
  each_customer P Q each same paid = each_updated exact_customer (λ k r. P r) (λ k r. Q r) pays t.customers each
      (λ k r h. elim (is_customer x.customer_warehouse x.customer_district c k) as (λ b. Q (cond b (charged_customer x.amount r) r))
      [ true ↦ paid r h | false ↦ same r h ])

  pub payment_keeps_room : HasRoomTo most top n (after_payment_of t x c)
  payment_keeps_room = record {
    warehouses = warehouse_room;
    districts = district_room;
    balances = each_customer (λ r. IsMoneyTo most (n + 1) r.balance) (λ r. IsMoneyTo most n r.balance) room.balances (λ r h. money_stays most n r.balance h)
        (λ r h. falls r.balance h);
    paid = each_customer (λ r. IsMoneyTo most (n + 1) r.paid) (λ r. IsMoneyTo most n r.paid) room.paid
        (λ r h. money_stays most n r.paid h) (λ r h. rises r.paid h);
    payments = each_customer (λ r. IsCountTo top (n + 1) r.payments) (λ r. IsCountTo top n r.payments) room.payments
        (λ r h. count_stays top n r.payments h) (λ r h. counts r.payments h);
    deliveries = each_customer (λ r. IsCountTo top (n + 1) r.deliveries) (λ r. IsCountTo top n r.deliveries) room.deliveries
        (λ r h. count_stays top n r.deliveries h) (λ r h. count_stays top n r.deliveries h);
    supplied = λ k r f. count_stays top n r.year_to_date (room.supplied k r f);
    orders = λ k r f. count_stays top n r.orders (room.orders k r f);
    remote_orders = λ k r f. count_stays top n r.remote_orders (room.remote_orders k r f);
  }

  district_rows : EachRow (λ k r. IsDistrictRow t.scale r) (after_payment_of t x c).districts
  district_rows = each_updated exact_district (λ k r. IsDistrictRow t.scale r × IsMoneyTo most (n + 1) r.year_to_date) (λ k r. IsDistrictRow t.scale r)
      (λ k r. cond (is_district x.warehouse x.district k) (raised_district x.amount r) r) t.districts
      (λ k r f. (wf.district_rows k r f, room.districts k r f))
      (λ k r h. elim (is_district x.warehouse x.district k) as (λ b. IsDistrictRow t.scale (cond b (raised_district x.amount r) r)) [
        | true ↦ record { year_to_date = is_money most n low _ (rises r.year_to_date h.1); next_order = h.0.next_order }
        | false ↦ h.0
      ])

  customer_rows : EachRow (λ k r. IsCustomerRow r) (after_payment_of t x c).customers
  customer_rows = each_customer
      (λ r. IsCustomerRow r × IsMoneyTo most (n + 1) r.balance × IsMoneyTo most (n + 1) r.paid × IsCountTo top (n + 1) r.payments) IsCustomerRow
      (λ k r f. (wf.customer_rows k r f, room.balances k r f, room.paid k r f, room.payments k r f))
      (λ r h. h.0)
      (λ r h. record {
        balance = is_money most n low _ (falls r.balance h.1);
        paid = is_money most n low _ (rises r.paid h.2);
        payments = is_count top n few _ (counts r.payments h.3);
        deliveries = h.0.deliveries;
      })

  abbrev writes : CustomerKey → List ℕ → List ℕ
  writes k text = cond (changes_text t x c k) (put_left (payment_text (front_of x c)) text) text

  text_rows : EachRow (λ k text. IsData text) (after_payment_of t x c).texts
  text_rows = each_updated exact_customer (λ k text. IsData text) (λ k text. IsData text) writes t.texts wf.text_rows
      (λ k text h. elim (changes_text t x c k) as (λ b. IsData (cond b (put_left (payment_text (front_of x c)) text) text))
      [ true ↦ kept (front_of x c) text h | false ↦ h ])

  abbrev added : IsHistoryRow t.scale (history_row x c)
  added = record {
    customer = is_customer_number;
    customer_district = ok.customer_district;
    customer_warehouse = ok.customer_warehouse;
    district = ok.district;
    warehouse = ok.warehouse;
    date = ok.date;
    at_least = ok.at_least;
    at_most = ok.at_most;
  }

  pub payment_keeps_well_formed : IsWellFormed (after_payment_of t x c)
  payment_keeps_well_formed = record {
    warehouses = updated_rows exact_number (IsWarehouseKey t.scale) (λ w r. cond (x.warehouse == w) (raised_warehouse x.amount r) r) t.warehouses wf.warehouses;
    districts = updated_rows exact_district (IsDistrictKey t.scale) (λ k r. cond (is_district x.warehouse x.district k) (raised_district x.amount r) r)
        t.districts wf.districts;
    customers = updated_rows exact_customer (IsCustomerKey t.scale) pays t.customers wf.customers;
    texts = updated_rows exact_customer (IsCustomerKey t.scale) writes t.texts wf.texts;
    stock = wf.stock;
    new_orders = wf.new_orders;
    orders = wf.orders;
    lines = wf.lines;
    items = wf.items;
    warehouse_rows = λ w r f. is_money most n low r.year_to_date (warehouse_room w r f);
    district_rows = district_rows;
    customer_rows = customer_rows;
    text_rows = text_rows;
    history_rows = All-push (IsHistoryRow t.scale) t.history (history_row x c) wf.history_rows added;
    order_rows = wf.order_rows;
    line_rows = wf.line_rows;
    item_rows = wf.item_rows;
    stock_rows = wf.stock_rows;
    order_customers = λ k r f. subst (λ b. b ≡ true) (sym (is_some-map_rows exact_customer pays t.customers (orderer k r))) (wf.order_customers k r f);
    new_order_orders = wf.new_order_orders;
    line_orders = wf.line_orders;
    last_names = last_names_stay t (after_payment_of t x c) (payment_keeps_constants t t x c (IsOf-itself t)) wf.last_names;
  }

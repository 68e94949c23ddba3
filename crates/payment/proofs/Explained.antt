-- What a Payment reads explains what it writes and replies.
use Rattle.std.proofs.Common.{◌≡◌, ℕ, ◌+◌, ◌+ℤ◌, ◌-ℤ◌, [], ◌∷◌, ◌++◌, List, Option, Some, None, refl, sym, ap, ◌∙◌, subst}
use Rattle.std.specs.FinMap.{get}
use Rattle.tables.specs.Database.{Database}
use Rattle.tables.specs.Sizes.{Sizes, IsNumber}
use Rattle.tables.specs.Keys.{IsCustomerKey}
use Rattle.tables.specs.declared.records.RecordKey.{RecordKey}
use Rattle.tables.specs.Payment.{IsPayment, payer, payer_number, after_payment, after_payment_of, payment_reply_of, history_row}
use Rattle.tables.specs.Apply.{Committed}
use Rattle.tables.specs.Rows.{rows, row_at}
use Rattle.tables.specs.declared.rows.Warehouse.{Warehouse}
use Rattle.tables.specs.declared.rows.District.{District}
use Rattle.tables.specs.declared.rows.Customer.{Customer}
use Rattle.tables.specs.declared.rows.History.{History}
use Rattle.tables.specs.declared.payment.PaymentInput.{PaymentInput}
use Rattle.tables.specs.declared.input.Input.TheVariants as input
use Rattle.tables.specs.declared.reply.Reply.TheVariants as reply
use Rattle.rows.specs.Columns.{warehouse_columns, district_columns, customer_columns}
use Rattle.rows.specs.Laws.{found_row}
use Rattle.rows.specs.Columns.{warehouse_columns_words, district_columns_words, customer_columns_words}
use Rattle.rows.specs.declared.columns.WarehouseColumns.{WarehouseColumns}
use Rattle.rows.specs.declared.columns.DistrictColumns.{DistrictColumns}
use Rattle.rows.specs.declared.columns.CustomerColumns.{CustomerColumns}
use Rattle.tables_laws.proofs.NamesKept.{same_number}
use Rattle.readset.specs.Reads.{ReadSetView}
use Rattle.readset.specs.Writes.{WriteSetView, no_writes, value_for, rows_with}
use Rattle.readset.specs.Commit.{IsCommitOf}
use Rattle.readset.specs.Explains.{IsCandidate}
use Rattle.readset.specs.Changes.{Holds, Says, Apart, AreKeys, TakeOnlyNewOrders, puts_all}
use Rattle.readset.proofs.HoldsChanges.{holds-changes, holds_first, not_taken}
use Rattle.payment.specs.Text.{text_change, IsTextAfter}
use Rattle.payment.specs.Steps.{paying, ArePaymentRows, paid, changes_of, reply_of}
use Rattle.payment.specs.declared.transaction.Rows.{Rows}
use Rattle.payment.proofs.Changed.{others, texts_kept, other_text, warehouse_changed, district_changed, customer_changed, balance_changed}

module _ (t0 : Database) (x : PaymentInput) (id : ℕ) (reads : ReadSetView) (found : Rows) (valid : IsPayment t0.scale x)
    (is_number : IsNumber t0.scale.customers id)
    (read : (t : Database) → IsCandidate t0 reads t → ArePaymentRows x id found t)
    (at_id : id ≡ payer_number t0 x) (text : Option (List ℕ)) (right : (t : Database) → IsCandidate t0 reads t → IsTextAfter x id text t)
  where
    -- the three rows of tables that may have been read
    record Found (t : Database) : Type 0 where
      w : Warehouse
      d : District
      c : Customer
      at_w : get t.warehouses x.warehouse ≡ Some w
      at_d : get t.districts (paying x) ≡ Some d
      at_c : get t.customers (payer x id) ≡ Some c
      is_w : warehouse_columns w ≡ found.warehouse
      is_d : district_columns d ≡ found.district
      is_c : customer_columns c ≡ found.customer

    found_of : (t : Database) → IsCandidate t0 reads t → Found t
    found_of t h =
        let r = read t h in
        let w = found_row warehouse_columns (get t.warehouses x.warehouse) found.warehouse r.warehouse in
        let d = found_row district_columns (get t.districts (paying x)) found.district r.district in
        let c = found_row customer_columns (get t.customers (payer x id)) found.customer r.customer in
        record { w = w.0; d = d.0; c = c.0; at_w = w.1; at_d = d.1; at_c = c.1; is_w = w.2; is_d = d.2; is_c = c.2 }

    replies : (t : Database) → IsCandidate t0 reads t → payment_reply_of t x id ≡ reply_of (paid x.amount found) x id
    replies t h =
        let r = found_of t h in
        let balance = balance_changed t x id r.c r.at_c ∙ ap (λ (c : CustomerColumns). c.balance -ℤ x.amount) r.is_c in
        λ i. record {
          warehouse = x.warehouse;
          district = x.district;
          customer_warehouse = x.customer_warehouse;
          customer_district = x.customer_district;
          customer = (payer x id).customer;
          balance = balance i;
        }

    -- the four keys are the scale's, none of their rows is taken out, and they have these rows after the payment
    keys : (t : Database) → IsCandidate t0 reads t → (text : Option (List ℕ)) → AreKeys t.scale (changes_of x id (paid x.amount found) text)
    keys t h text =
        let v : IsPayment t.scale x = subst (λ (q : Sizes). IsPayment q x) (sym h.of_population.scale) valid in
        let c : IsCustomerKey t.scale (payer x id) =
        (v.customer_warehouse, v.customer_district, subst (λ (q : Sizes). IsNumber q.customers id) (sym h.of_population.scale) is_number) in
        (v.warehouse, ((v.warehouse, v.district), (c, text_key c text)))
      where
        text_key : IsCustomerKey t.scale (payer x id) → (text : Option (List ℕ)) → AreKeys t.scale (text_change x id text)
        text_key c None = tt
        text_key c (Some words) = (c, tt)

    none_taken : (text : Option (List ℕ)) → TakeOnlyNewOrders (changes_of x id (paid x.amount found) text)
    none_taken text =
        let p = paid x.amount found in (
          not_taken _ (warehouse_columns_words p.warehouse),
          (not_taken _ (district_columns_words p.district), (not_taken _ (customer_columns_words p.customer), text_taken text)),
        )
      where
        text_taken : (text : Option (List ℕ)) → TakeOnlyNewOrders (text_change x id text)
        text_taken None = tt
        text_taken (Some words) = (not_taken _ words, tt)

    says : (t : Database) → IsCandidate t0 reads t → (text : Option (List ℕ)) → IsTextAfter x id text t
        → Says (row_at (after_payment_of t x id)) (changes_of x id (paid x.amount found) text)
    says t h text after =
        let r = found_of t h in (
          warehouse_changed t x id r.w r.at_w
              ∙ ap (λ (c : WarehouseColumns). Some (warehouse_columns_words (record { year_to_date = c.year_to_date +ℤ x.amount }))) r.is_w,
          (
            district_changed t x id r.d r.at_d
                ∙ ap (λ (c : DistrictColumns). Some (district_columns_words (record { year_to_date = c.year_to_date +ℤ x.amount; next_order = c.next_order }))) r.is_d,
            (
              customer_changed t x id r.c r.at_c
                  ∙ ap (λ (c : CustomerColumns). Some (customer_columns_words (record {
                    balance = c.balance -ℤ x.amount;
                    paid = c.paid +ℤ x.amount;
                    payments = c.payments + 1;
                    deliveries = c.deliveries;
                  }))) r.is_c,
              text_said text after,
            ),
          ),
        )
      where
        text_said : (text : Option (List ℕ)) → IsTextAfter x id text t → Says (row_at (after_payment_of t x id)) (text_change x id text)
        text_said None after = tt
        text_said (Some words) after = (after, tt)

    -- all other rows are as before
    apart_from : (t : Database) (text : Option (List ℕ)) → IsTextAfter x id text t → (j : RecordKey) → Apart j (changes_of x id (paid x.amount found) text)
        → row_at (after_payment_of t x id) j ≡ row_at t j
    apart_from t None after j apart = others t x id j apart.0 apart.1.0 apart.1.1.0 (λ k _. texts_kept t x id after k)
    apart_from t (Some words) after j apart = others t x id j apart.0 apart.1.0 apart.1.1.0
        (λ k same. other_text t x id k (λ one. apart.1.1.1.0 (same ∙ one)))

    changed : (t : Database) → IsCandidate t0 reads t → Holds t (puts_all t.scale no_writes (changes_of x id (paid x.amount found) text))
        (row_at (after_payment_of t x id))
    changed t h = holds-changes t (changes_of x id (paid x.amount found) text) no_writes (row_at t) (row_at (after_payment_of t x id)) (holds_first t)
        (keys t h text) (none_taken text) (says t h text (right t h)) (λ j _ apart. apart_from t text (right t h) j apart)

    pub commits : (writes : WriteSetView)
        → writes ≡ record { values = (puts_all t0.scale no_writes (changes_of x id (paid x.amount found) text)).values; history_row = Some (history_row x id) }
        → (t : Database) → IsCandidate t0 reads t → IsCommitOf t (input.Payment x) writes (reply.Payment (reply_of (paid x.amount found) x id))
    commits writes is t h =
        let after = paid x.amount found in
        let same : payer_number t x ≡ id = same_number t0 t (record { warehouse = x.customer_warehouse; district = x.customer_district }) x.who
        h.of_population ∙ sym at_id in
        subst (λ (w : WriteSetView). IsCommitOf t (input.Payment x) w (reply.Payment (reply_of after x id))) (sym is) (record {
          commits = ap (λ told. Committed (after_payment t x) (reply.Payment told)) (ap (payment_reply_of t x) same ∙ replies t h);
          numbered = tt;
          rows = λ n small. ap (λ i. rows (after_payment_of t x i) n) same ∙ (changed t h).put_in n small
              ∙ ap (λ (s : Sizes). rows_with (puts_all s no_writes (changes_of x id after text)) (rows t) n) h.of_population.scale;
          history = ap (λ i. t.history ++ history_row x i ∷ []) same;
          absent = λ n small out. (changed t h).absent n small
              (ap (λ (s : Sizes). value_for (puts_all s no_writes (changes_of x id after text)) n) h.of_population.scale ∙ out);
        })

-- the rows and HISTORY's, and then C_DATA, are all of it
pub then_text : (s : Sizes) (x : PaymentInput) (id : ℕ) (rows : Rows) (text : Option (List ℕ)) (row : Option History)
    → puts_all s (record { values = (puts_all s no_writes (changes_of x id rows None)).values; history_row = row }) (text_change x id text)
    ≡ record { values = (puts_all s no_writes (changes_of x id rows text)).values; history_row = row }
then_text s x id rows None row = refl
then_text s x id rows (Some words) row = refl

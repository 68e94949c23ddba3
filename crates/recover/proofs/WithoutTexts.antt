-- Tables whose Payments leave C_DATA alone: what is rebuilt of files is so of these too, and their replay keeps C_DATA.
use Rattle.std.proofs.Common.{◌≡◌, ℕ, Bool, false, ◌&&◌, List, [], ◌∷◌, Option, Some, None, length, refl, sym, ap, ◌∙◌, subst}
use Rattle.tables.specs.Database.{Database, database}
use Rattle.tables.specs.Apply.{after, left_by, order_unless}
use Rattle.tables.specs.Conditions.{IsConsistent}
use Rattle.tables.specs.NewOrder.{first_missing}
use Rattle.tables.specs.Payment.{changes_text, front_of, payer_number}
use Rattle.tables.specs.Records.{key_of}
use Rattle.tables.specs.Rows.{row_at, rows}
use Rattle.tables.specs.WellFormed.{IsWellFormed, HasRoom}
use Rattle.tables.specs.declared.limits.TheConstants.{MAX_COMMITS}
use Rattle.tables.specs.declared.input.Input.{Input}
use Rattle.tables.specs.declared.input.Input.TheVariants as input
use Rattle.tables.specs.declared.records.RecordKey.{RecordKey}
use Rattle.tables.specs.declared.records.RecordKey.TheVariants as key
use Rattle.tables.proofs.Orders.{exact_customer}
use Rattle.tables_laws.proofs.Updates.{update_where-none}
use Rattle.customer_data.specs.Text.{put_left}
use Rattle.customer_data.specs.Payments.{payment_text}
use Rattle.encoding.specs.Held.{by_key, AreTables}
use Rattle.log_text.specs.Bodies.{BodyView}
use Rattle.log_text.specs.Entries.{EntryView}
use Rattle.book.specs.History.{replay}
use Rattle.book.specs.declared.entry.Entry.{Entry}
use Rattle.recover_found.specs.Found.{found}
use Rattle.recover_found.specs.Rebuilt.{AreLeft, IsRebuilt}
use Rattle.recover_laws.specs.Found.{durable_cut}
use Rattle.recover_laws.specs.Recovered.{GiveTheReplay, IsFirstDatabase}
use Rattle.recover_files.specs.Files.{AreFilesOf}
use Rattle.recover_files.specs.Recovered.{IsRecovery}
use Rattle.recover_files.specs.declared.recovering.Recovered.{Recovered}
use Rattle.recover_files.proofs.SameFiles.{same_files}
use Rattle.recover.specs.WithoutTexts.{without_texts, IsReplayWithoutTexts}

-- records hold the same
same_row : (t : Database) (k : RecordKey) → row_at (without_texts t) k ≡ row_at t k
same_row t (key.Warehouse k) = refl
same_row t (key.District k) = refl
same_row t (key.Customer k) = refl
same_row t (key.NewOrder k) = refl
same_row t (key.Order k) = refl
same_row t (key.OrderLine k) = refl
same_row t (key.Stock k) = refl
same_row t (key.Oldest k) = refl
same_row t (key.Last k) = refl
same_row t (key.CustomerData k) = refl

same_rows : (t : Database) (n : ℕ) → rows (without_texts t) n ≡ rows t n
same_rows t n = same_row t (key_of t.scale n)

-- tables of some values
same_tables : (t0 t : Database) (values : RecordKey → Option (List ℕ)) → AreTables t0 values t → AreTables (without_texts t0) values (without_texts t)
same_tables t0 t values a = record {
  scale = a.scale;
  keeps = refl;
  items = a.items;
  warehouses = record {
    within = a.warehouses.within;
    each = λ k r found. let h = a.warehouses.each k r found in record { range = h.range; tax = h.tax };
    rows = a.warehouses.rows;
  };
  districts = record {
    within = a.districts.within;
    each = λ k r found. let h = a.districts.each k r found in record { range = h.range; tax = h.tax };
    rows = a.districts.rows;
  };
  customers = record {
    within = a.customers.within;
    each = λ k r found.
        let h = a.customers.each k r found in
        record { range = h.range; first_name = h.first_name; last_name = h.last_name; credit = h.credit; discount = h.discount };
    rows = a.customers.rows;
  };
  texts = a.texts;
  new_orders = a.new_orders;
  orders = a.orders;
  lines = a.lines;
  stock = a.stock;
}

-- what is rebuilt of entries
rebuilt_without : (t0 t : Database) (es : List EntryView) → IsRebuilt t0 es t → IsRebuilt (without_texts t0) es (without_texts t)
rebuilt_without t0 t es is = record {
  tables = same_tables t0 t (by_key t0.scale (rows (without_texts t)))
      (subst (λ (values : ℕ → Option (List ℕ)). AreTables t0 (by_key t0.scale values) t) (λ i n. sym (same_rows t n) i) is.tables);
  records = λ n of.
      subst (λ (value : Option (List ℕ)). AreLeft t0.scale es n (rows (without_texts t0) n) value) (sym (same_rows t n))
      (subst (λ (first : Option (List ℕ)). AreLeft t0.scale es n first (rows t n)) (sym (same_rows t0 n)) (is.records n of));
  commits = is.commits;
  in_order = is.in_order;
  history = is.history;
}

-- Payments leave C_DATA alone, and no other transaction changes it
never : (b : Bool) (keeps : Bool) → keeps ≡ false → keeps && b ≡ false
never b keeps none = ap (λ (k : Bool). k && b) none

texts_after : (t : Database) (x : Input) → t.keeps_texts ≡ false → (after t x).texts ≡ t.texts
texts_after t (input.Payment x) none =
    update_where-none exact_customer (changes_text t x (payer_number t x)) (put_left (payment_text (front_of x (payer_number t x)))) t.texts
    (λ k. never _ t.keeps_texts none)
texts_after t (input.NewOrder x) none = of (first_missing t x.lines)
  where
    of : (missing : Option ℕ) → (left_by t (order_unless missing t x)).texts ≡ t.texts
    of None = refl
    of (Some item) = refl
texts_after t (input.Delivery x) none = refl
texts_after t (input.OrderStatus x) none = refl
texts_after t (input.StockLevel x) none = refl

keeps_after : (t : Database) (x : Input) → (after t x).keeps_texts ≡ t.keeps_texts
keeps_after t (input.Payment x) = refl
keeps_after t (input.NewOrder x) = of (first_missing t x.lines)
  where
    of : (missing : Option ℕ) → (left_by t (order_unless missing t x)).keeps_texts ≡ t.keeps_texts
    of None = refl
    of (Some item) = refl
keeps_after t (input.Delivery x) = refl
keeps_after t (input.OrderStatus x) = refl
keeps_after t (input.StockLevel x) = refl

replay_keeps_texts : (t : Database) (history : List Entry) → t.keeps_texts ≡ false → (replay t history).texts ≡ t.texts
replay_keeps_texts t [] none = refl
replay_keeps_texts t (e ∷ es) none =
    replay_keeps_texts (after t e.input) es (keeps_after t e.input ∙ none) ∙ texts_after t e.input none

-- what tables may begin with speaks of no Payments
well_formed_without : (t : Database) → IsWellFormed t → IsWellFormed (without_texts t)
well_formed_without t is = record {
  warehouses = is.warehouses;
  districts = is.districts;
  customers = is.customers;
  texts = is.texts;
  stock = is.stock;
  new_orders = is.new_orders;
  orders = is.orders;
  lines = is.lines;
  items = is.items;
  warehouse_rows = is.warehouse_rows;
  district_rows = is.district_rows;
  customer_rows = is.customer_rows;
  text_rows = is.text_rows;
  history_rows = is.history_rows;
  order_rows = is.order_rows;
  line_rows = is.line_rows;
  item_rows = is.item_rows;
  stock_rows = is.stock_rows;
  order_customers = is.order_customers;
  new_order_orders = is.new_order_orders;
  line_orders = is.line_orders;
  last_names = is.last_names;
}

consistent_without : (t : Database) → IsConsistent t → IsConsistent (without_texts t)
consistent_without t is = record {
  condition_1 = is.condition_1;
  condition_2 = is.condition_2;
  condition_3 = is.condition_3;
  condition_4 = is.condition_4;
  condition_5 = is.condition_5;
  condition_6 = is.condition_6;
  condition_7 = is.condition_7;
  condition_8 = is.condition_8;
  condition_9 = is.condition_9;
  condition_10 = is.condition_10;
  condition_12 = is.condition_12;
}

room_without : (n : ℕ) (t : Database) → HasRoom n t → HasRoom n (without_texts t)
room_without n t room = record {
  warehouses = room.warehouses;
  districts = room.districts;
  balances = room.balances;
  paid = room.paid;
  payments = room.payments;
  deliveries = room.deliveries;
  supplied = room.supplied;
  orders = room.orders;
  remote_orders = room.remote_orders;
}

pub first_without : (t0 : Database) → IsFirstDatabase t0 → IsFirstDatabase (without_texts t0)
first_without t0 is = record {
  scale = is.scale;
  well_formed = well_formed_without t0 is.well_formed;
  consistent = consistent_without t0 is.consistent;
  room = room_without MAX_COMMITS t0 is.room;
}

-- strings that are the files of one list of bodies, which keep a history
module _ {version : ℕ} (t0 : Database) (seed : ℕ) (strings : List (List ℕ)) (left : List (List BodyView))
    (are : AreFilesOf version t0.scale seed strings left) (history : List Entry) (give : GiveTheReplay (without_texts t0) left history) where
  pub is_replay_without : (r : Recovered) → IsRecovery t0 seed strings r → IsReplayWithoutTexts t0 left history r
  is_replay_without r is =
      let same : is.files ≡ left = same_files t0 seed strings left are is.files is.short is.read in
      let rebuilt : IsRebuilt t0 (found left) (database r.tables)
      = subst (λ (files : List (List BodyView)). IsRebuilt t0 (found files) (database r.tables)) same is.of_files.rebuilt in
      let tables = give.is_replay (without_texts (database r.tables)) (rebuilt_without t0 (database r.tables) (found left) rebuilt) in
      record {
        tables = tables;
        texts = ap (λ (t : Database). t.texts) tables ∙ replay_keeps_texts (without_texts t0) (durable_cut left history) refl;
        commits = is.of_files.commits ∙ ap (λ (files : List (List BodyView)). length (found files)) same ∙ give.as_many;
      }

-- A lawful write is of a record of the scale, and leaves there what the record may hold.
use Rattle.std.proofs.Common.{◌≡◌, ℕ, ◌<◌, ◌≤◌, true, false, ◌&&◌, not, true≢false, List, length, Option, Some, None, refl, sym, ap, ◌∙◌, subst, not-suc-le-zero, arith}
use Rattle.std.specs.Prelude.{◌==◌, nat_lt, nat_le}
use Rattle.std.specs.List.{All, Contains, list_all, count_by}
use Rattle.std.proofs.lemmas.Bool.{leb-true, ltb-true, not-true}
use Rattle.std.proofs.lemmas.List.Elements.{All-contains, All-weaker}
use Rattle.std.proofs.lemmas.List.Sums.{AllPass-from_list_all}
use Rattle.std.proofs.lemmas.Option.{none-some}
use Rattle.customer_data.specs.Text.{IsData}
use Rattle.customer_data.specs.declared.words.TheConstants.{MIN_DATA, MAX_DATA}
use Rattle.tables.specs.Sizes.{Sizes}
use Rattle.tables.specs.Records.{size, table_number, table_of, place_of, record_number, record_count, narrow_count, key_at, key_of, order_at, IsRecordKey}
use Rattle.tables.specs.Rows.{new_order_words}
use Rattle.tables.specs.declared.keys.OrderKey.{OrderKey}
use Rattle.tables.specs.declared.records.Table.{Table}
use Rattle.tables.specs.declared.records.Table.TheVariants as table
use Rattle.tables.specs.declared.records.RecordKey.{RecordKey}
use Rattle.tables.specs.declared.records.RecordKey.TheVariants as key
use Rattle.tables.proofs.Numbers.{numbered, warehouse_there, district_there, customer_there, order_there, line_there, stock_there}
use Rattle.tables.proofs.Numbers.{places as one_to_one}
use Rattle.rows.specs.Columns.{IsOrderOfScale}
use Rattle.encoding.specs.Puts.{MayHold}
use Rattle.tables.specs.Rows.{order_words, line_words}
use Rattle.tables.specs.WellFormed.{IsLineRow}
use Rattle.log_text.specs.Entries.{EntryView}
use Rattle.log_text.specs.Columns.{has_text, ranges, are_within}
use Rattle.log_text.specs.Writes.{places, is_data, is_history, is_value, is_write, rise_from, are_writes, words_of_value}
use Rattle.tables.specs.declared.limits.TheConstants.{MAX_WRITES}
use Rattle.log_text.specs.declared.write.Write.{Write}
use Rattle.log_text.specs.declared.write.Value.{Value}
use Rattle.log_text.specs.declared.write.Value.TheVariants.{Absent, Columns, Text}
use Rattle.log_text.proofs.Fitting.{and_split}
use Rattle.recover_found.specs.Rebuilt.{number_of, LeavesInRecord}
use Rattle.recover_files.proofs.RowsOfWords.{there, warehouse_row, district_row, customer_row, new_order_row, order_row, line_row, stock_row}

-- lawful writes are each lawful
pub all_lawful : (s : Sizes) (ws : List Write) → are_writes s ws ≡ true → All (λ w. is_write s w ≡ true) ws
all_lawful s ws e =
    let all = and_split (list_all (is_write s) ws) (rise_from 0 ws && nat_le (count_by (λ w. not (is_history w)) ws) MAX_WRITES) e in
    AllPass-from_list_all (is_write s) ws all.0

pub each_lawful : (s : Sizes) (ws : List Write) → are_writes s ws ≡ true → (w : Write) → Contains ws w → is_write s w ≡ true
each_lawful s ws e w among =
    All-contains (λ w. is_write s w ≡ true) ws w (all_lawful s ws e) among

-- beside HISTORY a log's places of a table are its records
in_size : (s : Sizes) (t : Table) (p : ℕ) → p < places s t → (table_number t == 4) ≡ false → p < size s t
in_size s table.Warehouse p h other = h
in_size s table.District p h other = h
in_size s table.Customer p h other = h
in_size s table.History p h other = absurd (true≢false other)
in_size s table.NewOrder p h other = h
in_size s table.Order p h other = h
in_size s table.OrderLine p h other = h
in_size s table.Item p h other = h
in_size s table.Stock p h other = h
in_size s table.Oldest p h other = h
in_size s table.Last p h other = h
in_size s table.CustomerData p h other = h

-- those that hold no text are narrow, and the others wide
in_narrow : (s : Sizes) (t : Table) (p : ℕ) → p < size s t → has_text t ≡ false → record_number s t p < narrow_count s
in_narrow s table.Warehouse p h none = omega (arith, h)
in_narrow s table.District p h none = omega (arith, h)
in_narrow s table.Customer p h none = omega (arith, h)
in_narrow s table.History p h none = absurd (not-suc-le-zero h)
in_narrow s table.NewOrder p h none = omega (arith, h)
in_narrow s table.Order p h none = omega (arith, h)
in_narrow s table.OrderLine p h none = omega (arith, h)
in_narrow s table.Item p h none = absurd (not-suc-le-zero h)
in_narrow s table.Stock p h none = omega (arith, h)
in_narrow s table.Oldest p h none = omega (arith, h)
in_narrow s table.Last p h none = omega (arith, h)
in_narrow s table.CustomerData p h none = absurd (true≢false none)

in_wide : (s : Sizes) (t : Table) (p : ℕ) → has_text t ≡ true → narrow_count s ≤ record_number s t p
in_wide s table.Warehouse p holds = absurd (true≢false (sym holds))
in_wide s table.District p holds = absurd (true≢false (sym holds))
in_wide s table.Customer p holds = absurd (true≢false (sym holds))
in_wide s table.History p holds = absurd (true≢false (sym holds))
in_wide s table.NewOrder p holds = absurd (true≢false (sym holds))
in_wide s table.Order p holds = absurd (true≢false (sym holds))
in_wide s table.OrderLine p holds = absurd (true≢false (sym holds))
in_wide s table.Item p holds = absurd (true≢false (sym holds))
in_wide s table.Stock p holds = absurd (true≢false (sym holds))
in_wide s table.Oldest p holds = absurd (true≢false (sym holds))
in_wide s table.Last p holds = absurd (true≢false (sym holds))
in_wide s table.CustomerData p holds = omega arith

-- a text of a log file is one of C_DATA
pub data_is : (text : List ℕ) → is_data text ≡ true → IsData text
data_is text e =
    let halves = and_split (nat_le MIN_DATA (length text) && nat_le (length text) MAX_DATA) (list_all (λ b. nat_le 32 b && nat_le b 126) text) e in
    let limits = and_split (nat_le MIN_DATA (length text)) (nat_le (length text) MAX_DATA) halves.0 in
    record {
      at_least = leb-true MIN_DATA (length text) limits.0;
      at_most = leb-true (length text) MAX_DATA limits.1;
      printable = All-weaker (λ b. (nat_le 32 b && nat_le b 126) ≡ true) (λ b. (32 ≤ b) × (b ≤ 126))
          (λ b is. let both = and_split (nat_le 32 b) (nat_le b 126) is in (leb-true 32 b both.0, leb-true b 126 both.1)) text
          (AllPass-from_list_all (λ b. nat_le 32 b && nat_le b 126) text halves.1);
    }

module _ (s : Sizes) where
  -- a key has its place, and that place has the key
  key_there : (k : RecordKey) → IsRecordKey s k → (place_of s k < size s (table_of k)) × (key_at s (table_of k) (place_of s k) ≡ k)
  key_there (key.Warehouse w) h = let c = warehouse_there s w h in (c.0, ap key.Warehouse c.1)
  key_there (key.District k) h = let c = district_there s k h in (c.0, ap key.District c.1)
  key_there (key.Customer k) h = let c = customer_there s k h in (c.0, ap key.Customer c.1)
  key_there (key.NewOrder k) h = let c = order_there s k h in (c.0, ap key.NewOrder c.1)
  key_there (key.Order k) h = let c = order_there s k h in (c.0, ap key.Order c.1)
  key_there (key.OrderLine k) h = let c = line_there s k h in (c.0, ap key.OrderLine c.1)
  key_there (key.Stock k) h = let c = stock_there s k h in (c.0, ap key.Stock c.1)
  key_there (key.Oldest k) h = let c = district_there s k h in (c.0, ap key.Oldest c.1)
  key_there (key.Last k) h = let c = customer_there s k h in (c.0, ap key.Last c.1)
  key_there (key.CustomerData k) h = let c = customer_there s k h in (c.0, ap key.CustomerData c.1)

  -- the number of a place is below the count of records, and its key is the place's
  number_below : (t : Table) (p : ℕ) → p < size s t → record_number s t p < record_count s
  number_below t p h = ((one_to_one s).0 t t p p h h).0

  number_named : (t : Table) (p : ℕ) → p < size s t → key_of s (record_number s t p) ≡ key_at s t p
  number_named t p h =
      let k = key_of s (record_number s t p) in
      let is = numbered s (record_number s t p) (number_below t p h) in
      let at = key_there k is.0 in
      let same = ((one_to_one s).0 (table_of k) t (place_of s k) p at.0 h).1 is.1 in
      sym at.1 ∙ (λ i. key_at s (same.0 i) (same.1 i))

  -- what is lawful at a place may be held by the place's record
  place_may_hold : (t : Table) (p : ℕ) (v : Value) → p < size s t → is_value s t v ≡ true → MayHold s (key_at s t p) (words_of_value v)
  place_may_hold table.Warehouse p Absent h e = absurd (true≢false (sym e))
  place_may_hold table.Warehouse p (Columns words) h e = warehouse_row s words e
  place_may_hold table.Warehouse p (Text text) h e = absurd (true≢false (sym e))
  place_may_hold table.District p Absent h e = absurd (true≢false (sym e))
  place_may_hold table.District p (Columns words) h e = district_row s words e
  place_may_hold table.District p (Text text) h e = absurd (true≢false (sym e))
  place_may_hold table.Customer p Absent h e = absurd (true≢false (sym e))
  place_may_hold table.Customer p (Columns words) h e = customer_row s words e
  place_may_hold table.Customer p (Text text) h e = absurd (true≢false (sym e))
  place_may_hold table.History p v h e = absurd (not-suc-le-zero h)
  place_may_hold table.NewOrder p Absent h e = (None, refl, λ r is. absurd (none-some r is))
  place_may_hold table.NewOrder p (Columns words) h e = there new_order_words (λ r. Unit {0}) (Some words) (new_order_row s words e)
  place_may_hold table.NewOrder p (Text text) h e = absurd (true≢false (sym e))
  place_may_hold table.Order p Absent h e = absurd (true≢false (sym e))
  place_may_hold table.Order p (Columns words) h e = there order_words (IsOrderOfScale s) (Some words) (order_row s words e)
  place_may_hold table.Order p (Text text) h e = absurd (true≢false (sym e))
  place_may_hold table.OrderLine p Absent h e = absurd (true≢false (sym e))
  place_may_hold table.OrderLine p (Columns words) h e = there line_words (IsLineRow s) (Some words) (line_row s words e)
  place_may_hold table.OrderLine p (Text text) h e = absurd (true≢false (sym e))
  place_may_hold table.Item p v h e = absurd (not-suc-le-zero h)
  place_may_hold table.Stock p Absent h e = absurd (true≢false (sym e))
  place_may_hold table.Stock p (Columns words) h e = stock_row s words e
  place_may_hold table.Stock p (Text text) h e = absurd (true≢false (sym e))
  place_may_hold table.Oldest p v h e = tt
  place_may_hold table.Last p v h e = tt
  place_may_hold table.CustomerData p Absent h e = absurd (true≢false (sym e))
  place_may_hold table.CustomerData p (Columns words) h e = absurd (true≢false (sym e))
  place_may_hold table.CustomerData p (Text text) h e = (text, refl, data_is text e)

  -- only a row of NEW-ORDER is taken out
  none_is_new_order : (t : Table) (p : ℕ) → is_value s t Absent ≡ true → (k : OrderKey) × (key_at s t p ≡ key.NewOrder k)
  none_is_new_order table.Warehouse p e = absurd (true≢false (sym e))
  none_is_new_order table.District p e = absurd (true≢false (sym e))
  none_is_new_order table.Customer p e = absurd (true≢false (sym e))
  none_is_new_order table.History p e = absurd (true≢false (sym e))
  none_is_new_order table.NewOrder p e = (order_at s p, refl)
  none_is_new_order table.Order p e = absurd (true≢false (sym e))
  none_is_new_order table.OrderLine p e = absurd (true≢false (sym e))
  none_is_new_order table.Item p e = absurd (true≢false (sym e))
  none_is_new_order table.Stock p e = absurd (true≢false (sym e))
  none_is_new_order table.Oldest p e = absurd (true≢false (sym e))
  none_is_new_order table.Last p e = absurd (true≢false (sym e))
  none_is_new_order table.CustomerData p e = absurd (true≢false (sym e))

  module _ (w : Write) (lawful : is_write s w ≡ true) where
    -- its value is lawful
    value_lawful : is_value s w.table w.value ≡ true
    value_lawful = (and_split (nat_lt w.place (places s w.table)) (is_value s w.table w.value) lawful).1

    place_lawful : w.place < places s w.table
    place_lawful = ltb-true w.place (places s w.table) (and_split (nat_lt w.place (places s w.table)) (is_value s w.table w.value) lawful).0

    -- a write beside HISTORY has a record's place, number and key, and leaves what the record may hold
    pub place_below : is_history w ≡ false → w.place < size s w.table
    place_below other = in_size s w.table w.place place_lawful other

    pub written_below : is_history w ≡ false → number_of s w < record_count s
    written_below other = number_below w.table w.place (place_below other)

    pub written_key : is_history w ≡ false → key_of s (number_of s w) ≡ key_at s w.table w.place
    written_key other = number_named w.table w.place (place_below other)

    pub written_may_hold : is_history w ≡ false → MayHold s (key_of s (number_of s w)) (words_of_value w.value)
    written_may_hold other = subst (λ k. MayHold s k (words_of_value w.value)) (sym (written_key other))
        (place_may_hold w.table w.place w.value (place_below other) value_lawful)

    -- columns are left in narrow records, and texts in wide ones
    pub columns_below : is_history w ≡ false → (words : List ℕ) → w.value ≡ Columns words → number_of s w < narrow_count s
    columns_below other words is =
        let lawful = subst (λ (v : Value). is_value s w.table v ≡ true) is value_lawful in
        in_narrow s w.table w.place (place_below other) (not-true (has_text w.table) (and_split (not (has_text w.table)) (are_within (ranges s w.table) words) lawful).0)

    pub text_above : (text : List ℕ) → w.value ≡ Text text → (narrow_count s ≤ number_of s w) × IsData text
    text_above text is =
        let lawful = subst (λ (v : Value). is_value s w.table v ≡ true) is value_lawful in
        let both = and_split (has_text w.table) (is_data text) lawful in
        (in_wide s w.table w.place both.0, data_is text both.1)

  -- nothing is left by an absent value alone
  absent_is : (v : Value) → words_of_value v ≡ None → v ≡ Absent
  absent_is Absent e = refl
  absent_is (Columns words) e = absurd cc
  absent_is (Text text) e = absurd cc

  module _ (e : EntryView) (lawful : are_writes s e.writes ≡ true) (n : ℕ) where
    -- what an entry leaves in a record is what it may hold
    pub left_may_hold : (value : Option (List ℕ)) → LeavesInRecord s e n value → (n < record_count s) × MayHold s (key_of s n) value
    left_may_hold value left =
        let is = each_lawful s e.writes lawful left.write left.among in (
          subst (λ m. m < record_count s) left.number (written_below left.write is left.of_record),
          subst (MayHold s (key_of s n)) left.words
              (subst (λ m. MayHold s (key_of s m) (words_of_value left.write.value)) left.number (written_may_hold left.write is left.of_record)),
        )

    pub left_columns : (value : Option (List ℕ)) (left : LeavesInRecord s e n value) (words : List ℕ) → left.write.value ≡ Columns words → n < narrow_count s
    left_columns value left words is =
        subst (λ m. m < narrow_count s) left.number
        (columns_below left.write (each_lawful s e.writes lawful left.write left.among) left.of_record words is)

    pub left_text : (value : Option (List ℕ)) (left : LeavesInRecord s e n value) (text : List ℕ) → left.write.value ≡ Text text
        → (narrow_count s ≤ n) × IsData text
    left_text value left text is =
        subst (λ m. (narrow_count s ≤ m) × IsData text) left.number
        (text_above left.write (each_lawful s e.writes lawful left.write left.among) text is)

    -- and where that is nothing the record is one of NEW-ORDER
    pub left_none : LeavesInRecord s e n None → (k : OrderKey) × (key_of s n ≡ key.NewOrder k)
    left_none left =
        let w = left.write in
        let is = each_lawful s e.writes lawful w left.among in
        let none = none_is_new_order w.table w.place
        (subst (λ (v : Value). is_value s w.table v ≡ true) (absent_is w.value left.words) (value_lawful w is)) in
        (none.0, sym (ap (key_of s) left.number) ∙ written_key w is left.of_record ∙ none.1)

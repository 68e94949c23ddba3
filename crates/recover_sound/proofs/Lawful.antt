-- What is rebuilt of log files: records hold what they may, HISTORY rows are within their ranges, and the tables are
-- what the first ones may have become.
use Rattle.std.proofs.Common.{◌≡◌, ◌↔◌, ⊎_elim, ℕ, true, List, ◌++◌, length, drop, Option, Some, None, sym, ap, ◌∙◌, subst}
use Rattle.std.specs.Prelude.{flat_map, nat_lt}
use Rattle.std.specs.List.{All}
use Rattle.std.proofs.Math.Seq.{drop-append_seam}
use Rattle.std.proofs.lemmas.List.Elements.{All-nil, All-append, All-contains, All-from_recursion}
use Rattle.std.proofs.lemmas.List.Sorted.{All-permutation}
use Rattle.tables.specs.Database.{Database}
use Rattle.tables.specs.Reach.{BelongToOrders}
use Rattle.tables.specs.Records.{key_of, number_of_key, IsRecordKey}
use Rattle.tables.specs.Rows.{rows}
use Rattle.tables.specs.Sizes.{Sizes}
use Rattle.tables.specs.WellFormed.{IsWellFormed, IsHistoryRow}
use Rattle.tables.specs.declared.records.RecordKey.{RecordKey}
use Rattle.tables.specs.declared.records.RecordKey.TheVariants as key
use Rattle.tables.specs.declared.records.Table.{Table}
use Rattle.tables.specs.declared.records.Table.TheVariants as table
use Rattle.tables.specs.declared.rows.History.{History}
use Rattle.tables.proofs.Numbers.{named}
use Rattle.encoding.specs.Held.{IsTableRecord, by_key}
use Rattle.encoding.specs.Puts.{MayHold}
use Rattle.encoding.proofs.Belong.{well_formed_where_rows_belong}
use Rattle.encoding.proofs.Numbered.{IsTableKey, table_record}
use Rattle.encoding.proofs.Values.{is_of, lawful_values}
use Rattle.book.specs.Base.{HasBecome}
use Rattle.log_text.specs.Bodies.{BodyView}
use Rattle.log_text.specs.Entries.{EntryView}
use Rattle.log_text.specs.Writes.{places, is_value, is_write, are_writes}
use Rattle.log_text.specs.declared.write.Write.{Write}
use Rattle.log_text.specs.declared.write.Value.{Value}
use Rattle.log_text.specs.declared.write.Value.TheVariants.{Absent, Columns, Text}
use Rattle.log_text.proofs.Fitting.{and_split}
use Rattle.recover_found.specs.Found.{found, keeps}
use Rattle.recover_found.specs.Rebuilt.{IsRebuilt, rows_in, added_by}
use Rattle.recover_found.proofs.Elements.{has_to}
use Rattle.recover_files.specs.Files.{AreFiles}
use Rattle.recover_files.specs.Parts.{HaveLawfulWrites}
use Rattle.recover_files.proofs.Found.{files_lawful, counted_lawful}
use Rattle.recover_files.proofs.HistoryWords.{row_in_ranges}
use Rattle.recover_files.proofs.LawfulWrites.{each_lawful, left_may_hold}
use Rattle.recover_files.proofs.Looking.{all_from, all_in}
use Rattle.recover_sound.specs.Sound.{rows_behind_those_of}

abbrev HasLawful : Sizes → EntryView → Type 0
HasLawful s e = are_writes s e.writes ≡ true

module _ (s : Sizes) where
  -- the row of HISTORY of a lawful value
  rows_of_value : (t : Table) (value : Value) → is_value s t value ≡ true
      → All (IsHistoryRow s) (rows_in t value)
  rows_of_value table.History (Columns words) e =
      All-from_recursion (IsHistoryRow s) (rows_in table.History (Columns words)) (row_in_ranges s words e, tt)
  rows_of_value table.History Absent e = All-nil (IsHistoryRow s)
  rows_of_value table.History (Text text) e = All-nil (IsHistoryRow s)
  rows_of_value table.Warehouse value e = All-nil (IsHistoryRow s)
  rows_of_value table.District value e = All-nil (IsHistoryRow s)
  rows_of_value table.Customer value e = All-nil (IsHistoryRow s)
  rows_of_value table.NewOrder value e = All-nil (IsHistoryRow s)
  rows_of_value table.Order value e = All-nil (IsHistoryRow s)
  rows_of_value table.OrderLine value e = All-nil (IsHistoryRow s)
  rows_of_value table.Item value e = All-nil (IsHistoryRow s)
  rows_of_value table.Stock value e = All-nil (IsHistoryRow s)
  rows_of_value table.Oldest value e = All-nil (IsHistoryRow s)
  rows_of_value table.Last value e = All-nil (IsHistoryRow s)
  rows_of_value table.CustomerData value e = All-nil (IsHistoryRow s)

  rows_of_write : (w : Write) → is_write s w ≡ true → All (IsHistoryRow s) (rows_in w.table w.value)
  rows_of_write w lawful =
      rows_of_value w.table w.value
      (and_split (nat_lt w.place (places s w.table)) (is_value s w.table w.value) lawful).1

  -- those that an entry of lawful writes adds
  rows_of_entry : (e : EntryView) → HasLawful s e → All (IsHistoryRow s) (added_by e)
  rows_of_entry e lawful =
      let of : Write → List History = λ w. rows_in w.table w.value in
      all_in (IsHistoryRow s) of e.writes
      (all_from (λ (w : Write). All (IsHistoryRow s) (of w)) e.writes
      (λ w among. rows_of_write w (each_lawful s e.writes lawful w (has_to e.writes w among))))

  rows_of_entries : (es : List EntryView) → HaveLawfulWrites s es → All (IsHistoryRow s) (flat_map added_by es)
  rows_of_entries es lawful =
      all_in (IsHistoryRow s) added_by es
      (all_from (λ (e : EntryView). All (IsHistoryRow s) (added_by e)) es
      (λ e among. rows_of_entry e (All-contains (HasLawful s) es e lawful (has_to es e among))))

-- tables that are rebuilt of entries with lawful writes
module _ (t0 t : Database) (es : List EntryView) (wf : IsWellFormed t0) (lawful : HaveLawfulWrites t0.scale es)
    (rebuilt : IsRebuilt t0 es t) where
  abbrev s : Sizes
  s = t0.scale

  record_holds : (n : ℕ) → IsTableRecord s n → MayHold s (key_of s n) (rows t n)
  record_holds n less = ⊎_elim
      (λ newest. (left_may_hold s newest.entry (All-contains (HasLawful s) es newest.entry lawful newest.among) n
      (rows t n) newest.leaves).1)
      (λ unwritten. subst (MayHold s (key_of s n)) (sym unwritten.1) (lawful_values t0 wf n less))
      (rebuilt.records n less)

  row_holds : (k : RecordKey) → IsRecordKey s k → IsTableKey k → MayHold s k (by_key s (rows t) k)
  row_holds k is row =
      subst (λ j. MayHold s j (by_key s (rows t) k)) (named s k is).1
      (record_holds (number_of_key s k) (table_record s k is row))

  key_holds : (k : RecordKey) → IsRecordKey s k → MayHold s k (by_key s (rows t) k)
  key_holds (key.Warehouse k) is = row_holds (key.Warehouse k) is tt
  key_holds (key.District k) is = row_holds (key.District k) is tt
  key_holds (key.Customer k) is = row_holds (key.Customer k) is tt
  key_holds (key.NewOrder k) is = row_holds (key.NewOrder k) is tt
  key_holds (key.Order k) is = row_holds (key.Order k) is tt
  key_holds (key.OrderLine k) is = row_holds (key.OrderLine k) is tt
  key_holds (key.Stock k) is = row_holds (key.Stock k) is tt
  key_holds (key.Oldest k) is = tt
  key_holds (key.Last k) is = tt
  key_holds (key.CustomerData k) is = row_holds (key.CustomerData k) is tt

  history_in_ranges : All (IsHistoryRow s) t.history
  history_in_ranges =
      subst (All (IsHistoryRow s)) (sym rebuilt.history)
      (All-append (IsHistoryRow s) t0.history (flat_map added_by rebuilt.commits) wf.history_rows
      (rows_of_entries s rebuilt.commits (All-permutation (HasLawful s) es rebuilt.commits rebuilt.in_order.same lawful)))

  well_formed_there : IsWellFormed t ↔ BelongToOrders t
  well_formed_there =
      well_formed_where_rows_belong t0 t (by_key s (rows t)) wf key_holds rebuilt.tables history_in_ranges

  rows_there : t.history ≡ t0.history ++ rows_behind_those_of t0 t
  rows_there =
      let added = flat_map added_by rebuilt.commits in
      rebuilt.history
      ∙ ap (λ l. t0.history ++ l)
      (sym (ap (drop (length t0.history)) rebuilt.history ∙ drop-append_seam t0.history added))

  become_there : HasBecome t0 t (rows_behind_those_of t0 t)
  become_there = record {
    of_population = is_of t0 (by_key s (rows t)) t wf key_holds rebuilt.tables;
    history = rows_there;
  }

-- so those of a database's log files
module _ (t0 t : Database) (seed : ℕ) (strings : List (List ℕ)) (files : List (List BodyView))
    (wf : IsWellFormed t0) (are : AreFiles t0.scale seed strings files) (rebuilt : IsRebuilt t0 (found files) t) where
  found_lawful : HaveLawfulWrites t0.scale (found files)
  found_lawful = counted_lawful t0.scale (keeps files) files (files_lawful t0.scale seed strings files are)

  pub well_formed_where : IsWellFormed t ↔ BelongToOrders t
  well_formed_where = well_formed_there t0 t (found files) wf found_lawful rebuilt

  pub become : HasBecome t0 t (rows_behind_those_of t0 t)
  become = become_there t0 t (found files) wf found_lawful rebuilt

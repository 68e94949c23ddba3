-- What a part's entries make of the tables.
use Rattle.std.proofs.Common.{◌++◌, map, ◌≡◌, inl, inr, true, ℕ, List, [], ◌∷◌, Option, Some, None, refl, sym, ap, ◌∙◌, subst}
use Rattle.std.specs.List.{flat_map}
use Rattle.std.specs.Option.{option_to_list}
use Rattle.std.proofs.lemmas.List.Concat.{flat_map-cons}
use Rattle.std.specs.List.Sorted.{IsPermutation}
use Rattle.std.proofs.lemmas.List.Elements.{All-contains, All-head, All-tail}
use Rattle.std.proofs.lemmas.List.Sorted.{All-permutation}
use Rattle.tables.specs.Sizes.{Sizes}
use Rattle.tables.specs.Database.{Database}
use Rattle.tables.specs.Rows.{rows}
use Rattle.tables.specs.declared.rows.History.{History}
use Rattle.tables.specs.declared.records.RecordKey.{RecordKey}
use Rattle.encoding.specs.Held.{IsTableRecord, by_key, AreTables}
use Rattle.log_text.specs.Entries.{EntryView}
use Rattle.log_text.specs.Writes.{are_writes, words_of_value}
use Rattle.recover_found.specs.Rebuilt.{LeavesInRecord, IsNewest, AreLeft, AreNumbered, IsRebuilt, added_by}
use Rattle.recover_newest.specs.Known.{known}
use Rattle.recover_newest.specs.Putting.{MayPut, left_in}
use Rattle.recover_newest.specs.declared.latest.Latest.{Latest}
use Rattle.recover_files.specs.Parts.{IsLatest, IsKnown, IsPart, HaveLawfulWrites, commit_of}
use Rattle.recover_files.specs.declared.numbering.Commit.{Commit}
use Rattle.recover_files.specs.declared.part.Part.{Part}
use Rattle.recover_files.proofs.HistoryRows.{one_row}
use Rattle.recover_files.proofs.LawfulWrites.{left_may_hold, left_columns, left_text, left_none}

-- what a part knows may be put into tables
pub may_put : (s : Sizes) (es : List EntryView) (p : Part) → IsPart s es p → HaveLawfulWrites s es → (n : ℕ) (w : Latest) → known p.newest n ≡ Some w
    → MayPut s n w.value
may_put s es p part lawful n w is =
    let latest : IsLatest s es n w = subst (IsKnown s es n) is (part.known n) in
    let e : EntryView = latest.newest.entry in
    let writes : are_writes s e.writes ≡ true = All-contains (λ (d : EntryView). are_writes s d.writes ≡ true) es e lawful latest.newest.among in
    let left = latest.newest.leaves in
    let held = left_may_hold s e writes n (words_of_value w.value) left in
    record {
      number = held.0;
      may_hold = held.1;
      columns = λ words is. left_columns s e writes n (words_of_value w.value) left words (latest.value ∙ is);
      text = λ text is. left_text s e writes n (words_of_value w.value) left text (latest.value ∙ is);
      taken_out = λ none. left_none s e writes n (subst (LeavesInRecord s e n) (ap words_of_value none) left);
    }

-- the rows of HISTORY that are kept of entries are those that the entries add
rows_kept : (s : Sizes) (es : List EntryView) → HaveLawfulWrites s es → flat_map (λ (c : Commit). option_to_list c.row) (map commit_of es) ≡ flat_map added_by es
rows_kept s [] lawful = refl
rows_kept s (e ∷ es) lawful =
    let P = λ (d : EntryView). are_writes s d.writes ≡ true in
    flat_map-cons (λ (c : Commit). option_to_list c.row) (commit_of e) (map commit_of es)
    ∙ (λ i. sym (one_row s e.writes (All-head P e es lawful)) i ++ rows_kept s es (All-tail P e es lawful) i) ∙ sym (flat_map-cons added_by e es)

-- and what tables hold that it was put into is what the entries leave
pub left_by : (s : Sizes) (es : List EntryView) (n : ℕ) (known : Option Latest) (first value : Option (List ℕ)) → IsKnown s es n known
    → value ≡ left_in known first → AreLeft s es n first value
left_by s es n None first value none is = inr (none, is)
left_by s es n (Some w) first value known is = inl (subst (IsNewest s es n) (sym is) known.newest)

-- HISTORY has no records
other_history : (t0 : Database) (values : RecordKey → Option (List ℕ)) (t : Database) (h : List History) → AreTables t0 values t
    → AreTables t0 values (record t { history = h })
other_history t0 values t h a = record {
  scale = a.scale;
  keeps = a.keeps;
  items = a.items;
  texts = a.texts;
  warehouses = a.warehouses;
  districts = a.districts;
  customers = a.customers;
  new_orders = a.new_orders;
  orders = a.orders;
  lines = a.lines;
  stock = a.stock;
}

module _ (t0 : Database) (es : List EntryView) (p : Part) where
  -- what each record holds that a part's knowledge was put into
  abbrev pub values : ℕ → Option (List ℕ)
  values n = left_in (known p.newest n) (rows t0 n)

  -- those tables, with the rows of HISTORY of the entries in their order, are what the entries make of the first
  pub rebuilt_of : (t u : Database) (sorted : List EntryView) → IsPart t0.scale es p → HaveLawfulWrites t0.scale es → AreTables t0 (by_key t0.scale values) t
      → t.history ≡ t0.history → u ≡ record t { history = t.history ++ flat_map (λ (c : Commit). option_to_list c.row) (map commit_of sorted) }
      → IsPermutation es sorted → AreNumbered 1 sorted
      → ((v : ℕ → Option (List ℕ)) → AreTables t0 (by_key t0.scale v) u → AreTables t0 (by_key t0.scale (rows u)) u)
      → ((v : ℕ → Option (List ℕ)) → AreTables t0 (by_key t0.scale v) u → (n : ℕ) → IsTableRecord t0.scale n → rows u n ≡ v n)
      → IsRebuilt t0 es u
  rebuilt_of t u sorted part lawful tables history new same numbers own held = record {
    tables = own values now;
    records = λ n h. left_by t0.scale es n (known p.newest n) (rows t0 n) (rows u n) (part.known n) (held values now n h);
    commits = sorted;
    in_order = record { same = same; numbers = numbers };
    history = ap (λ (d : Database). d.history) new
        ∙ (λ i. history i ++ rows_kept t0.scale sorted (All-permutation (λ (d : EntryView). are_writes t0.scale d.writes ≡ true) es sorted same lawful) i);
  }
    where
      now : AreTables t0 (by_key t0.scale values) u
      now = subst (AreTables t0 (by_key t0.scale values)) (sym new)
          (other_history t0 (by_key t0.scale values) t (t.history ++ flat_map (λ (c : Commit). option_to_list c.row) (map commit_of sorted)) tables)
